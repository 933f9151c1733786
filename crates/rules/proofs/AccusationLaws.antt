-- Rule 5: who is accused.
use mathlib.Core.Path.{◌≡◌, refl, ap, ◌∙◌}
use mathlib.Core.Bool.{Bool, true, false, not, ◌&&◌}
use mathlib.Core.Logic.{⊎_elim}
use Prim.Native.Nat.{ℕ}
use lib.Dec.{eqb}
use borrow.Author.Tests.{eq-eqb, eqb-true, not-false}
use Rattle.words.specs.Bits.{bit}
use Rattle.words.specs.Count.{any, lowest}
use Rattle.words.proofs.Truth.{which, iff-eq, not-both, and_l, cond-true}
use Rattle.words.proofs.CountLaws.{any_none, any-empty}
use Rattle.words.proofs.LowestLaws.{lowest-zero, lowest-empty}
use Rattle.rules.specs.Accusation.{differs_at, accusation_of}

-- a missing row is never accused
pub missing-unaccused : (n voters row health j : ℕ) → bit voters j ≡ false → accusation_of n voters row health j ≡ 0
unfolding accusation_of
missing-unaccused n voters row health j f = rw f

-- what a row says of its own module accuses nobody
pub own-unasked : (row health j : ℕ) → differs_at row health j j ≡ false
unfolding differs_at
own-unasked row health j = rw (eq-eqb j j refl)

-- no lowest number is no number at all
lowest-any : (n : ℕ) (p : ℕ → Bool) → eqb (lowest n p) 0 ≡ not (any n p)
lowest-any n p =
    iff-eq _ _ (λ t. ap not (any-empty n p (lowest-zero p n (eqb-true _ 0 t))))
    (λ t. eq-eqb _ 0 (lowest-empty p n (any_none n p (not-both (any n p) t))))

-- a module is not accused exactly if its row is missing or differs nowhere
pub unaccused : (n voters row health j : ℕ)
    → eqb (accusation_of n voters row health j) 0 ≡ not (bit voters j && any n (differs_at row health j))
unfolding accusation_of
unaccused n voters row health j =
    ⊎_elim (λ (t : bit voters j ≡ true). rw t (lowest-any n (differs_at row health j))) (λ (f : bit voters j ≡ false). rw f)
    (which (bit voters j))

-- ---- the same with the test already made

module _ (n voters row health j : ℕ) where
  pub clean-unaccused : not (bit voters j && any n (differs_at row health j)) ≡ true → accusation_of n voters row health j ≡ 0
  clean-unaccused t = eqb-true _ 0 (unaccused n voters row health j ∙ t)

  pub unclean-accused : not (bit voters j && any n (differs_at row health j)) ≡ false
      → accusation_of n voters row health j ≡ lowest n (differs_at row health j)
  unfolding accusation_of
  unclean-accused f = cond-true _ _ (and_l (bit voters j) _ (not-false (bit voters j && any n (differs_at row health j)) f))
