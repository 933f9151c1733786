-- Rule 5: who is accused, and by which number.
use Rattle.std.specs.Prelude.{ℕ, Bool, cond, not, ◌&&◌, List, get_or, eqb}
use Rattle.std.specs.Bool.{beq}
use Rattle.words.specs.Bits.{bit}
use Rattle.words.specs.Count.{lowest}
use Rattle.words.specs.Array.{array}

-- the row of j differs from the health vector at h, which is not j
unfoldable pub differs_at : ℕ → ℕ → ℕ → ℕ → Bool
differs_at row health j h = not (eqb h j) && not (beq (bit row h) (bit health h))

-- the lowest number at which j's row differs, or 0 for none; a missing row is not accused
unfoldable pub accusation_of : ℕ → ℕ → ℕ → ℕ → ℕ → ℕ
accusation_of n voters row health j = cond (bit voters j) (lowest n (differs_at row health j)) 0

-- all modules: entry j is the accusation of module j + 1
unfoldable pub accusations_of : ℕ → ℕ → List ℕ → ℕ → List ℕ
accusations_of n voters rows health = array n (λ j. accusation_of n voters (get_or rows j 0) health j)
