-- A change on lent arrays: the entries below j are those after the change, the others as they were.
use mathlib.Core.Path.{◌≡◌, refl, ap, ◌∙◌}
use mathlib.Core.Bool.{Bool}
use mathlib.Core.List.{List}
use Prim.Native.Nat.{ℕ, ◌%◌, ◌^◌, ◌<◌, ◌≤◌}
use native.Mathlib.Omega.{arith}
use lib.ListN.{get_or, replicate, get_or-replicate}
use lib.Ieee.{binary64, of_bits}
use Rattle.words.specs.Bits.{bit}
use Rattle.words.specs.Array.{array, replaced, Filled}
use Rattle.words.proofs.ArrayLaws.{clear_of, array_at, array-own, replaced-array}
use Rattle.doubles.proofs.Rounding.{zero_bits}
use Rattle.accounts.specs.declared.Account.{Account}
use Rattle.changes.specs.Adjust.{adjusted}
use Rattle.changes.specs.Lent.{adjusted_in}

-- the account after the change, with fields that are already read
pub adjusted-lent : {u v : ℕ} {b : Bool} {t : Account} (view p r : ℕ) (k x y : List ℕ) (j : ℕ) → u ≡ get_or x j 0 → v ≡ get_or y j 0 → b ≡ bit view j
    → t ≡ adjusted p r (get_or k j 0) (record { present = b; penalty = u; reward = v; score = of_bits binary64 0; returns = 0 })
    → t ≡ adjusted_in view p r k x y j
unfolding adjusted_in
adjusted-lent view p r k x y j eu ev eb e = rw (eb, eu, ev, zero_bits) at e

-- an array whose first n entries are all replaced
pub replaced-all : {l : List ℕ} {j : ℕ} (n : ℕ) (f : ℕ → ℕ) (a : List ℕ) → n ≤ 16 → j ≡ n → Filled n a → l ≡ replaced j f a → l ≡ array n f
replaced-all n f a small e fill h =
    replaced-array n n f a (omega arith) small fill (λ i x y. absurd (omega arith)) (h ∙ ap (λ (m : ℕ). replaced m f a) e)

-- an array of zeros has no entries but those in use
pub zeros-filled : (n : ℕ) → n ≤ 16 → Filled n (replicate 16 0)
zeros-filled n small = array-own n (replicate 16 0) small refl (clear_of n (replicate 16 0) (λ i h l. get_or-replicate {A = ℕ} 16 i 0 0 l))

-- criticalities that are read from words are small
pub read_small : {l : List ℕ} (n : ℕ) (w : ℕ → ℕ) → n ≤ 16 → l ≡ array n (λ j. w j % 2 ^ 17) → (j : ℕ) → j < n → get_or l j 0 < 2 ^ 28
read_small n w small e j h =
    let z : get_or (array n (λ k. w k % 2 ^ 17)) j 0 ≡ w j % 2 ^ 17 = array_at n _ j h small in
    rw (e, z) (omega arith)
