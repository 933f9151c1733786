-- Renumbered vectors and arrays, entry by entry.
use Prim.Native.Nat.{ℕ, ◌^◌, ◌≤◌, ◌<◌, zero-le}
use mathlib.Core.Path.{◌≡◌, refl, sym, ap, ◌∙◌}
use mathlib.Core.Bool.{Bool, true}
use mathlib.Core.List.{List}
use native.Mathlib.Omega.{arith}
use lib.Pow.{pow_pos}
use lib.ListN.{get_or, replicate, get_or-replicate}
use Rattle.words.specs.Bits.{bit, pack, full}
use Rattle.words.specs.Array.{array}
use Rattle.words.proofs.BitLaws.{bit-pack, bit-ext, bit_high, bit-full, pack-ext, pack-lt, pack-full, pack-own}
use Rattle.words.proofs.ArrayLaws.{array_at, array-ext, array-own, clear_of}
use lib.Ieee.{Float}
use Rattle.doubles.specs.Array.{entry, zeros, doubles}
use Rattle.doubles.proofs.DoubleArrayLaws.{doubles-at, doubles-ext, doubles-zeros, zeros-at as score-zero}
use Rattle.renumbering.specs.Renumbering.{Renumbering, vector_for, array_for, doubles_for, rows_for}

module _ (n : ℕ) (π : Renumbering n) where
  pub vector-bit : (v j : ℕ) → j < n → bit (vector_for n π v) j ≡ bit v (π.from j)
  unfolding vector_for
  vector-bit v j h = bit-pack n _ j h

  pub vector-lt : (v : ℕ) → vector_for n π v < 2 ^ n
  unfolding vector_for
  vector-lt v = pack-lt n _

  -- what is a renumbered vector bit by bit is one
  pub vector-by : (v v' : ℕ) → v' < 2 ^ n → ((j : ℕ) → j < n → bit v' j ≡ bit v (π.from j)) → v' ≡ vector_for n π v
  vector-by v v' h e = bit-ext n v' (vector_for n π v) h (vector-lt v) (λ j l. e j l ∙ sym (vector-bit v j l))

  pub vector-pack : (f : ℕ → Bool) → vector_for n π (pack n f) ≡ pack n (λ j. f (π.from j))
  unfolding vector_for
  vector-pack f = pack-ext n _ _ (λ j h. bit-pack n f (π.from j) (π.from-below j h))

  pub vector-full : vector_for n π (full n) ≡ full n
  unfolding vector_for
  vector-full = pack-ext n _ (λ j. true) (λ j h. bit-full n (π.from j) (π.from-below j h)) ∙ pack-full n

  -- all bits of 0 are the same
  bit-zero : (j : ℕ) → bit 0 j ≡ bit 0 0
  bit-zero j = bit_high 0 0 j (pow_pos 0) zero-le ∙ sym (bit_high 0 0 0 (pow_pos 0) zero-le)

  pub vector-zero : vector_for n π 0 ≡ 0
  unfolding vector_for
  vector-zero = pack-ext n _ (bit 0) (λ j h. bit-zero (π.from j) ∙ sym (bit-zero j)) ∙ pack-own n 0 (pow_pos n)

  module _ (small : n ≤ 16) where
    pub array-entry : (a : List ℕ) (j : ℕ) → j < n → get_or (array_for n π a) j 0 ≡ get_or a (π.from j) 0
    unfolding array_for
    array-entry a j h = array_at n _ j h small

    pub rows-entry : (a : List ℕ) (j : ℕ) → j < n → get_or (rows_for n π a) j 0 ≡ vector_for n π (get_or a (π.from j) 0)
    unfolding rows_for
    rows-entry a j h = array_at n _ j h small

    pub array-pack : (f f' : ℕ → ℕ) → ((j : ℕ) → j < n → f' j ≡ f (π.from j)) → array n f' ≡ array_for n π (array n f)
    unfolding array_for
    array-pack f f' e = array-ext n _ _ (λ j h. e j h ∙ sym (array_at n f (π.from j) (π.from-below j h) small))

    pub rows-pack : (f f' : ℕ → ℕ) → ((j : ℕ) → j < n → f' j ≡ vector_for n π (f (π.from j))) → array n f' ≡ rows_for n π (array n f)
    unfolding rows_for
    rows-pack f f' e =
        array-ext n _ _ (λ j h. e j h ∙ ap (vector_for n π) (sym (array_at n f (π.from j) (π.from-below j h) small)))

    zeros-at : (j : ℕ) → j < 16 → ◌≡◌ {A = ℕ} (get_or (replicate 16 0) j 0) 0
    zeros-at j h = get_or-replicate {A = ℕ} 16 j 0 0 h

    pub zeros-for : replicate 16 0 ≡ array_for n π (replicate 16 0)
    unfolding array_for
    zeros-for =
        sym (array-own n (replicate 16 0) small refl (clear_of n (replicate 16 0) (λ i h l. zeros-at i l)))
        ∙ array-ext n _ _ (λ j h. let b = π.from-below j h in zeros-at j (omega arith) ∙ sym (zeros-at (π.from j) (omega arith)))

    -- the same of doubles
    pub doubles-entry : (a : List Float) (j : ℕ) → j < n → entry (doubles_for n π a) j ≡ entry a (π.from j)
    unfolding doubles_for
    doubles-entry a j h = doubles-at n _ j h small

    pub doubles-pack : (f f' : ℕ → Float) → ((j : ℕ) → j < n → f' j ≡ f (π.from j)) → doubles n f' ≡ doubles_for n π (doubles n f)
    unfolding doubles_for
    doubles-pack f f' e = doubles-ext n _ _ (λ j h. e j h ∙ sym (doubles-at n f (π.from j) (π.from-below j h) small))

    pub no-scores-for : zeros ≡ doubles_for n π zeros
    unfolding doubles_for
    no-scores-for = sym (doubles-zeros n _ small (λ j h. let b = π.from-below j h in score-zero (π.from j) (omega arith)))
