-- A vector whose low bits are those of one vector, and whose other bits are those of another.
use mathlib.Core.Path.{◌≡◌, refl, ap, ◌∙◌, sym}
use mathlib.Core.Bool.{Bool, true, false, cond}
use Prim.Native.Nat.{ℕ, ◌+◌, ◌-◌, ◌*◌, ◌/◌, ◌%◌, ◌^◌, ◌<◌, ◌≤◌}
use native.Mathlib.Omega.{arith}
use native.Mathlib.Nat.{mod-lt, add_comm, div-mul-le_self}
use lib.Dec.{eqb, ltb}
use lib.Pow.{pow_pos, pow_mono, shr-shr, high}
use borrow.Author.Tests.{ltb-true, ltb-false}
use Rattle.words.specs.Bits.{bit, pack}
use Rattle.words.proofs.BitLaws.{bit-low, bit-mod, pack-bits, pack-ext}

-- a bit at s or above sees only what stands there
bit-above : (c v s i : ℕ) → v < 2 ^ s → bit (v + c * 2 ^ s) (s + i) ≡ bit c i
unfolding bit
bit-above c v s i h =
    ap (λ (x : ℕ). eqb (x % 2) 1)
    (sym (shr-shr (v + c * 2 ^ s) s i) ∙ ap (λ (x : ℕ). x / 2 ^ i) (ap (λ (x : ℕ). x / 2 ^ s) (add_comm v (c * 2 ^ s)) ∙ high c s h))

bit-shr : (x s i : ℕ) → bit (x / 2 ^ s) i ≡ bit x (s + i)
unfolding bit
bit-shr x s i = ap (λ (y : ℕ). eqb (y % 2) 1) (shr-shr x s i)

module _ (n s low top : ℕ) where
  abbrev spliced : ℕ
  spliced = low % 2 ^ s + top % 2 ^ n / 2 ^ s * 2 ^ s

  splice-bit : (j : ℕ) → j < n → (b : Bool) → ltb j s ≡ b → bit spliced j ≡ cond b (bit low j) (bit top j)
  splice-bit j h true t =
      bit-low (top % 2 ^ n / 2 ^ s) (low % 2 ^ s) s j (ltb-true j s t) ∙ bit-mod s low j (ltb-true j s t)
  splice-bit j h false t =
      let l : s ≤ j = ltb-false j s t in
      let e : j ≡ s + (j - s) = omega arith in
      ap (bit spliced) e ∙ bit-above (top % 2 ^ n / 2 ^ s) (low % 2 ^ s) s (j - s) (mod-lt low (pow_pos s))
      ∙ bit-shr (top % 2 ^ n) s (j - s) ∙ ap (bit (top % 2 ^ n)) (sym e) ∙ bit-mod n top j h

  pub splice-bits : spliced % 2 ^ n ≡ pack n (λ j. cond (ltb j s) (bit low j) (bit top j))
  splice-bits =
      sym (pack-bits n spliced)
      ∙ pack-ext n (bit spliced) (λ j. cond (ltb j s) (bit low j) (bit top j)) (λ j h. splice-bit j h (ltb j s) refl)

  -- and it fits a word
  pub splice-fits : n ≤ 16 → s < 31 → spliced < 2 ^ 32
  splice-fits hn hs =
      omega (
        arith,
        mod-lt low (pow_pos s),
        mod-lt top (pow_pos n),
        div-mul-le_self (top % 2 ^ n) (2 ^ s),
        pow_mono {i = n} {j = 16} hn,
        pow_mono {i = s} {j = 31} (omega arith),
      )
