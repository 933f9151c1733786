-- A renumbering of n modules, and what becomes of vectors, arrays and words under it. (document 02, E8)
-- A module is its number less one here, as in a vector: module j + 1 is bit j.
use Rattle.std.specs.Prelude.{ℕ, ◌+◌, ◌*◌, ◌/◌, ◌^◌, ◌<◌, ◌≡◌, List, get_or, Float}
use Rattle.words.specs.Bits.{bit, pack}
use Rattle.words.specs.Array.{array}
use Rattle.doubles.specs.Array.{entry, doubles}

-- any permutation of the numbers below n, with its inverse: module j becomes module `to j`, and module j was module `from j`
pub record Renumbering (n : ℕ) : Type 0 where
  pub to : ℕ → ℕ
  pub from : ℕ → ℕ
  pub to_below : (j : ℕ) → j < n → to j < n
  pub from-below : (j : ℕ) → j < n → from j < n
  pub from-to : (j : ℕ) → j < n → from (to j) ≡ j
  pub to-from : (j : ℕ) → j < n → to (from j) ≡ j

module _ (n : ℕ) (π : Renumbering n) where
  -- a vector: bit `to j` is what bit j was
  unfoldable pub vector_for : ℕ → ℕ
  vector_for v = pack n (λ j. bit v (π.from j))

  -- an array with a number for each module: entry `to j` is what entry j was
  unfoldable pub array_for : List ℕ → List ℕ
  array_for a = array n (λ j. get_or a (π.from j) 0)

  -- an array with a double for each module
  unfoldable pub doubles_for : List Float → List Float
  doubles_for a = doubles n (λ j. entry a (π.from j))

  -- an array with a row for each module: each row in its module's place, and renumbered itself
  unfoldable pub rows_for : List ℕ → List ℕ
  rows_for a = array n (λ j. vector_for (get_or a (π.from j) 0))

  -- a word of any bits: its n low bits as a vector, the others as they are
  unfoldable pub word_for : ℕ → ℕ
  word_for w = w / 2 ^ n * 2 ^ n + vector_for w

  -- an array with a view word for each module: each in its module's place, and renumbered itself; one that is missing, 0, stays 0
  unfoldable pub view_words_for : List ℕ → List ℕ
  view_words_for a = array n (λ j. word_for (get_or a (π.from j) 0))
