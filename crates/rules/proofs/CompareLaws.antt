-- Two rows without bit j, cut to n bits, are equal exactly if they differ nowhere below n but at j.
use mathlib.Core.Path.{◌≡◌, refl, sym, ap, ◌∙◌}
use mathlib.Core.Bool.{Bool, true, false, not, ◌&&◌, ◌||◌, beq}
use Prim.Native.Nat.{ℕ, ◌%◌, ◌^◌, ◌<◌, ◌≤◌}
use native.Mathlib.Omega.{arith}
use native.Mathlib.Nat.{mod-lt}
use lib.Pow.{pow_pos}
use lib.Dec.{eqb}
use borrow.Author.Tests.{eq-eqb, eqb-true, not-false}
use Rattle.words.specs.Bits.{bit}
use Rattle.words.specs.Count.{any}
use Rattle.words.proofs.Truth.{beq-eq, beq-refl, iff-eq, not-both}
use Rattle.words.proofs.CountLaws.{any_none, any-empty}
use Rattle.words.proofs.BitLaws.{bit-mod, bit-ext}
use Rattle.words.specs.Mask.{without}
use Rattle.rules.specs.Accusation.{differs_at}
use Rattle.words.proofs.MaskLaws.{without-bit}

-- leaving j out before the comparison is leaving it out after
out_first : (t a b : Bool) → not t && not (beq a b) ≡ not (beq (not t && a) (not t && b))
out_first true a b = refl
out_first false a b = refl

module _ (n row health j : ℕ) (small : n ≤ 32) where
  cut-bit : (v h : ℕ) → h < n → bit (without v j % 2 ^ n) h ≡ not (eqb h j) && bit v h
  cut-bit v h l = bit-mod n (without v j) h l ∙ without-bit v j h (omega arith)

  differs-cut : (h : ℕ) → h < n → differs_at row health j h ≡ not (beq (bit (without row j % 2 ^ n) h) (bit (without health j % 2 ^ n) h))
  unfolding differs_at
  differs-cut h l = out_first (eqb h j) (bit row h) (bit health h) ∙ rw (cut-bit row h l, cut-bit health h l)

  pub equal-clean : eqb (without row j % 2 ^ n) (without health j % 2 ^ n) ≡ not (any n (differs_at row health j))
  equal-clean = iff-eq _ _ (λ t. ap not (none (eqb-true _ _ t))) (λ t. eq-eqb _ _ (same (not-both (any n (differs_at row health j)) t)))
    where
      none : without row j % 2 ^ n ≡ without health j % 2 ^ n → any n (differs_at row health j) ≡ false
      none e = any-empty n (differs_at row health j) (λ h l. differs-cut h l ∙ rw (e, beq-refl (bit (without health j % 2 ^ n) h)))

      same : any n (differs_at row health j) ≡ false → without row j % 2 ^ n ≡ without health j % 2 ^ n
      same e =
          bit-ext n (without row j % 2 ^ n) (without health j % 2 ^ n) (mod-lt _ (pow_pos n)) (mod-lt _ (pow_pos n))
          (λ h l. beq-eq _ _ (not-false _ (sym (differs-cut h l) ∙ any_none n (differs_at row health j) e h l)))

not-and : (a b : Bool) → not a || not b ≡ not (a && b)
not-and true b = refl
not-and false b = refl

-- the test as code makes it
pub clean-by : {b : Bool} {x y p q : ℕ} (n voters row health j : ℕ) → n ≤ 32 → b ≡ bit voters j → x ≡ without row j → p ≡ 2 ^ n
    → y ≡ without health j → q ≡ 2 ^ n → not b || eqb (x % p) (y % q) ≡ not (bit voters j && any n (differs_at row health j))
clean-by n voters row health j small e a ea b eb =
    rw (e, a, ea, b, eb, equal-clean n row health j small) (not-and (bit voters j) (any n (differs_at row health j)))
