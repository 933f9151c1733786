-- A helper of the contracts of the inner functions of src/lanes.rt and src/four.rt: no public contract rests on it.
-- Counting the votes on all modules at once: sixteen counts of at most 15, in four lanes of four.
use Rattle.std.specs.Prelude.{ℕ, ◌+◌, ◌-◌, ◌*◌, ◌/◌, ◌%◌, ◌^◌, ◌≤◌, Bool, cond, not, ◌&&◌, List, [], ◌∷◌, get_or, eqb}
use Rattle.words.specs.Bits.{bit, b2n}
use Rattle.words.specs.Count.{count}
use Rattle.words.specs.Mask.{without}
use Rattle.vote.specs.Vote.{decision}
use Rattle.vote.specs.declared.lanes.Tally.{Tally}

-- the votes of l: bit j is its vote on j, 0 where it has none
unfoldable pub ballot_of : ℕ → ℕ → ℕ → ℕ
ballot_of voters row l = cond (bit voters l) (without row l) 0

-- how many of n modules vote 1 on j
unfoldable pub ones_on : ℕ → ℕ → List ℕ → ℕ → ℕ
ones_on n voters rows j = count n (λ l. (not (eqb l j) && bit voters l) && bit (get_or rows l 0) j)

-- numbers k, k + 4, k + 8 and k + 12, four bits for each
unfoldable pub lane_of : ℕ → (ℕ → ℕ) → ℕ
lane_of k f = f k + f (k + 4) * 2 ^ 4 + f (k + 8) * 2 ^ 8 + f (k + 12) * 2 ^ 12

-- number j in its lane
abbrev pub column_in : ℕ → ℕ → ℕ
column_in lane j = lane / 2 ^ (j / 4 * 4) % 16

-- number j of four lanes
unfoldable pub column_of : List ℕ → ℕ → ℕ
column_of lanes j = column_in (get_or lanes (j % 4) 0) j

-- how many rows are present without that of j
abbrev pub votes_but : ℕ → ℕ → ℕ → ℕ
votes_but present voters j = present - b2n (bit voters j)

-- the decision on j by the rows present and the counts in the lanes
unfoldable pub decided_by : ℕ → List ℕ → ℕ → ℕ → ℕ → Bool
decided_by present lanes voters own j = decision (votes_but present voters j) (column_of lanes j) (bit own j)

-- counts that are those of some votes on j: the table has an entry for them
abbrev pub Countable : ℕ → List ℕ → ℕ → ℕ → Type 0
Countable present lanes voters j =
    (b2n (bit voters j) ≤ present) × (votes_but present voters j ≤ 15) × (column_of lanes j ≤ votes_but present voters j)

-- the counts of n rows
unfoldable pub tally_of : ℕ → ℕ → List ℕ → Tally
tally_of n voters rows =
    let ones = ones_on n voters rows in
    record { present = count n (bit voters); ones = lane_of 0 ones ∷ lane_of 1 ones ∷ lane_of 2 ones ∷ lane_of 3 ones ∷ [] }
