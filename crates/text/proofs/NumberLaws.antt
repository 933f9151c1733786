-- Numerals are what the library prints, and how many places they take.
use mathlib.Core.Path.{◌≡◌, ap}
use mathlib.Core.List.{List, [], ◌∷◌, ◌++◌, append_assoc}
use Prim.Native.Nat.{ℕ, ◌+◌, ◌<◌, ◌≤◌, ◌^◌}
use native.Mathlib.Numerals.{add-one}
use native.Mathlib.Omega.{arith}
use lib.ListN.{length}
use borrow.Author.Tests.{lt-ltb, le-ltb}
use Rattle.words.proofs.Truth.{cond-true, cond-false}
use Rattle.std.specs.Fmt.{decimal as printed}
use Rattle.std.proofs.lemmas.Fmt.{AppendsLastDigit, decimal_from_appends, length-decimal-le}
use Rattle.words.specs.Bits.{b2n, bit}
use Rattle.text.specs.Text.{numeral, decimal, vector}

appends : AppendsLastDigit numeral
unfolding numeral
appends = record { one = λ k n h. cond-true _ _ (lt-ltb n 10 h); more = λ k n h. cond-false _ _ (le-ltb n 10 h) }

-- ten places hold any 32-bit number
pub decimal-printed : (v : ℕ) → v < 2 ^ 32 → decimal v ≡ printed v
decimal-printed v h = decimal_from_appends numeral appends 10 v (omega arith) (length-decimal-le 10 v (omega arith) (omega arith) (omega arith))

pub decimal-places : (k v : ℕ) → 0 < k → v < 10 ^ k → v < 2 ^ 32 → length (decimal v) ≤ k
decimal-places k v p h l =
    let e = ap length (decimal-printed v l) in
    let m = length-decimal-le k v p h (omega arith) in
    omega (arith, e, m)

-- a 32-bit number has at most ten digits
pub decimal_ten : (v : ℕ) → v < 2 ^ 32 → length (decimal v) ≤ 10
decimal_ten v h = decimal-places 10 v (omega arith) (omega arith) h

-- ---- bit vectors

-- one bit more
pub vector_step : (old : List ℕ) {a b : List ℕ} {d : ℕ} (v j : ℕ) → a ≡ old ++ vector j v → d ≡ 48 + b2n (bit v j) → b ≡ a ++ (d ∷ []) → b ≡ old ++ vector (j + 1) v
unfolding vector
vector_step old v j e q f = rw (f, e, q, add-one) (append_assoc old (vector j v) ((48 + b2n (bit v j)) ∷ []))
