-- The decision of a vote as a table that can be checked on paper: a row for each number of votes, 0 to 15, and in it a place for each
-- number of ones among them, 0 to 15. (document 02, E3) The table itself stands in src/vote_table.rt.
use Rattle.std.specs.Prelude.{ℕ, ◌+◌, ◌-◌, ◌*◌, ◌/◌, ◌%◌, ◌≤◌, ◌<◌, ◌≡◌, ◌⊎◌, ◌↔◌, ◌≢◌, cond, List, get_or, length, eqb, leb}
use Rattle.words.specs.Table.{table}

-- ---- the characters that stand in the table

-- the mark `?` for empty: nobody votes
abbrev pub empty : ℕ
empty = 63

-- the mark `-` for impossible: more ones than votes
abbrev pub impossible : ℕ
impossible = 45

-- the decision 1, as the character `1`
abbrev pub good : ℕ
good = 49

-- the decision 0, as the character `0`
abbrev pub bad : ℕ
bad = 48

-- ---- the rule for all entries

-- what stands for these votes and ones: a decision 1 where the ones are at least as many as the zeros
unfoldable pub table_entry : ℕ → ℕ → ℕ
table_entry votes ones = cond (leb ones votes) (cond (eqb votes 0) empty (cond (leb (votes - ones) ones) good bad)) impossible

-- all 256 entries, row by row: that of a pair stands at votes × 16 + ones
unfoldable pub vote_table : List ℕ
vote_table = table (λ k. table_entry (k / 16) (k % 16))

-- the entry of a pair
abbrev pub entry_at : ℕ → ℕ → ℕ
entry_at votes ones = get_or vote_table (votes * 16 + ones) 0

-- ---- what is promised of it, of every pair of votes and ones from 0 to 15. Proved in proofs/VoteTableLaws.antt.
pub record TableRule : Type 0 where
  -- it has 256 entries
  pub entries : length vote_table ≡ 256
  -- no two of the four characters are the same: a mark is no decision
  pub told-apart : (empty ≢ impossible) × (empty ≢ good) × (empty ≢ bad) × (impossible ≢ good) × (impossible ≢ bad) × (good ≢ bad)
  -- the pair 0, 0, and no other, holds the mark for empty
  pub empty-at : (votes ones : ℕ) → votes < 16 → ones < 16 → (entry_at votes ones ≡ empty) ↔ ((votes ≡ 0) × (ones ≡ 0))
  -- a pair holds the mark for impossible exactly if it has more ones than votes
  pub impossible-at : (votes ones : ℕ) → votes < 16 → ones < 16 → (entry_at votes ones ≡ impossible) ↔ (votes < ones)
  -- a pair holds the decision 1 exactly if somebody votes and the ones are at least as many as the zeros
  pub good-at : (votes ones : ℕ) → votes < 16 → ones < 16
      → (entry_at votes ones ≡ good) ↔ ((0 < votes) × (ones ≤ votes) × (votes - ones ≤ ones))
  -- a pair holds the decision 0 exactly if the zeros are more than the ones
  pub bad-at : (votes ones : ℕ) → votes < 16 → ones < 16 → (entry_at votes ones ≡ bad) ↔ ((ones ≤ votes) × (ones < votes - ones))
  -- nothing else stands in it
  pub one-of-four : (votes ones : ℕ) → votes < 16 → ones < 16
      → (entry_at votes ones ≡ empty) ⊎ ((entry_at votes ones ≡ impossible) ⊎ ((entry_at votes ones ≡ good) ⊎ (entry_at votes ones ≡ bad)))
