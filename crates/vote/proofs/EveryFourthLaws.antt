-- Every fourth bit of a row: what `lane` takes out of it.
use mathlib.Core.Path.{◌≡◌, ap, ap₂, ◌∙◌}
use Prim.Native.Nat.{ℕ, ◌+◌, ◌*◌, ◌/◌, ◌%◌, ◌^◌}
use native.Mathlib.Omega.{arith}
use lib.Bits.{bit_and, and_block, and_mask}
use lib.Pow.{shr-shr}
use Rattle.words.specs.Bits.{bit, b2n}
use Rattle.words.proofs.BitLaws.{b2n-bit}
use Rattle.vote.specs.Lanes.{lane_of}

-- every fourth bit of x
and-fourth : (x : ℕ) → bit_and x 4369 ≡ x % 2 + x / 16 % 2 * 16 + x / 256 % 2 * 256 + x / 4096 % 2 * 4096
and-fourth x =
    let p : x / 16 / 16 ≡ x / 256 = omega arith in
    let q : x / 16 / 16 / 16 ≡ x / 4096 = omega arith in
    let r : x / 16 / 16 / 16 % 2 ≡ x / 4096 % 2 = rw q in
    let t : x / 16 / 16 % 2 ≡ x / 256 % 2 = rw p in
    step x 273 ∙ ap (λ (y : ℕ). y * 16 + x % 2) (step (x / 16) 17) ∙ ap (λ (y : ℕ). (y * 16 + x / 16 % 2) * 16 + x % 2) (step (x / 16 / 16) 1)
    ∙ ap (λ (y : ℕ). ((y * 16 + x / 16 / 16 % 2) * 16 + x / 16 % 2) * 16 + x % 2) (and_mask (x / 16 / 16 / 16) 1)
    ∙ ap₂ (λ (y z : ℕ). ((y * 16 + z) * 16 + x / 16 % 2) * 16 + x % 2) r t ∙ sum (x % 2) (x / 16 % 2) (x / 256 % 2) (x / 4096 % 2)
  where
    sum : (a b c d : ℕ) → ((d * 16 + c) * 16 + b) * 16 + a ≡ a + b * 16 + c * 256 + d * 4096
    sum a b c d = omega arith

    step : (y m : ℕ) → bit_and y (m * 16 + 1) ≡ bit_and (y / 16) m * 16 + y % 2
    step y m =
        let e : y ≡ y / 16 * 2 ^ 4 + y % 16 = omega arith in
        let f : y % 16 % 2 ≡ y % 2 = omega arith in
        ap (λ (z : ℕ). bit_and z (m * 16 + 1)) e ∙ and_block 4 (y / 16) m (y % 16) 1 (omega arith) (omega arith)
        ∙ ap (λ (z : ℕ). bit_and (y / 16) m * 16 + z) (and_mask (y % 16) 1 ∙ f)

-- a lane of a row
pub lane-bits : (row k : ℕ) → bit_and (row / 2 ^ k) 4369 ≡ lane_of k (λ j. b2n (bit row j))
unfolding lane_of
lane-bits row k =
    and-fourth (row / 2 ^ k)
    ∙ rw (
      b2n-bit row k,
      b2n-bit row (k + 4),
      b2n-bit row (k + 8),
      b2n-bit row (k + 12),
      ← (shr-shr row k 4),
      ← (shr-shr row k 8),
      ← (shr-shr row k 12),
    )
