-- Bits of a conjunction, and of a vector with one bit cleared.
use Rattle.std.proofs.Common.{◌≡◌, ℕ, zero, suc, ◌-◌, ◌/◌, ◌%◌, ◌^◌, ◌<◌, Bool, not, ◌&&◌, eqb, sym, refl, ap, ◌∙◌, arith}
use mathlib.Core.Bool.{beq, and_comm}
use lib.Bits.{bit_and, and_shr, and_mod, and_le_l, and_le_r}
use Rattle.words.specs.Bits.{bit, pack}
use Rattle.words.specs.Count.{all}
use Rattle.words.proofs.Truth.{beq-eq}
use Rattle.words.proofs.CountLaws.{all-at}
use Rattle.words.proofs.BitLaws.{bit-pack, bit-ext, pack-lt}
use Rattle.words.specs.Mask.{without}

and_one : (x y : ℕ) → x < 2 → y < 2 → eqb (bit_and x y) 1 ≡ eqb x 1 && eqb y 1
and_one zero zero h k = refl
and_one zero (suc zero) h k = refl
and_one (suc zero) zero h k = refl
and_one (suc zero) (suc zero) h k = refl
and_one zero (suc (suc y)) h k = absurd (omega arith)
and_one (suc zero) (suc (suc y)) h k = absurd (omega arith)
and_one (suc (suc x)) y h k = absurd (omega arith)

-- a bit of a conjunction
pub bit-and : (a b h : ℕ) → bit (bit_and a b) h ≡ bit a h && bit b h
unfolding bit
bit-and a b h =
    ap (λ (x : ℕ). eqb (x % 2) 1) (and_shr a b h)
    ∙ ap (λ (x : ℕ). eqb x 1) (and_mod (a / 2 ^ h) (b / 2 ^ h) 1)
    ∙ and_one (a / 2 ^ h % 2) (b / 2 ^ h % 2) (omega arith) (omega arith)

-- a conjunction whose left side has no bits at n or above
pub and-pack : (n a b : ℕ) → a < 2 ^ n → bit_and a b ≡ pack n (λ j. bit a j && bit b j)
and-pack n a b h =
    bit-ext n (bit_and a b) (pack n (λ j. bit a j && bit b j)) (omega (arith, and_le_l a b)) (pack-lt n _)
    (λ k l. bit-and a b k ∙ sym (bit-pack n (λ j. bit a j && bit b j) k l))

-- the mask that clears bit j has every other bit
mask-bit : (j h : ℕ) → j < 32 → h < 32 → bit (2 ^ 32 - 1 - 2 ^ j) h ≡ not (eqb h j)
unfolding bit all
mask-bit j h lj lh =
    beq-eq (bit (2 ^ 32 - 1 - 2 ^ j) h) (not (eqb h j))
    (all-at 32 (λ k. beq (bit (2 ^ 32 - 1 - 2 ^ j) k) (not (eqb k j)))
    (all-at 32 (λ i. all 32 (λ k. beq (bit (2 ^ 32 - 1 - 2 ^ i) k) (not (eqb k i)))) refl j lj) h lh)

-- and so it clears bit j
pub masked : (v j : ℕ) → j < 32 → bit_and v (2 ^ 32 - 1 - 2 ^ j) ≡ without v j
unfolding without
masked v j h =
    let mask = 2 ^ 32 - 1 - 2 ^ j in
    bit-ext 32 (bit_and v mask) (pack 32 (λ k. not (eqb k j) && bit v k)) (omega (arith, and_le_r v mask)) (pack-lt 32 _)
    (λ k l. bit-and v mask k ∙ and_comm (bit v k) (bit mask k) ∙ ap (λ (b : Bool). b && bit v k) (mask-bit j k h l)
    ∙ sym (bit-pack 32 (λ i. not (eqb i j) && bit v i) k l))

-- a bit of what is left
pub without-bit : (v j h : ℕ) → h < 32 → bit (without v j) h ≡ not (eqb h j) && bit v h
unfolding without
without-bit v j h l = bit-pack 32 (λ i. not (eqb i j) && bit v i) h l
