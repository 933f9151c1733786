-- Rule 4: the vote on each module, and the health vector.
use Rattle.std.specs.Prelude.{ℕ, ◌-◌, Bool, cond, not, ◌&&◌, List, get_or, eqb, leb}
use Rattle.words.specs.Bits.{bit, pack}
use Rattle.words.specs.Count.{count}

-- more ones, 1; more zeros, 0; equal and not empty, 1; empty, the own syndrome's bit
unfoldable pub decision : ℕ → ℕ → Bool → Bool
decision votes ones own = cond (eqb votes 0) own (leb (votes - ones) ones)

-- a vote of those below n that are present, each with what it says
unfoldable pub tally : ℕ → (ℕ → Bool) → (ℕ → Bool) → Bool → Bool
tally n present says own = decision (count n present) (count n (λ l. present l && says l)) own

-- the vote on j over the rows of all voters but j; an empty one is bit j of the own syndrome
unfoldable pub vote_of : ℕ → ℕ → List ℕ → ℕ → ℕ → Bool
vote_of n voters rows own j = tally n (λ l. not (eqb l j) && bit voters l) (λ l. bit (get_or rows l 0) j) (bit own j)

-- the health vector: bit j is the vote on module j + 1
unfoldable pub health_of : ℕ → ℕ → List ℕ → ℕ → ℕ
health_of n voters rows own = pack n (vote_of n voters rows own)
