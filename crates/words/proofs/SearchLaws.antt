-- What a search for the first wrong word found, and what a test of one word answered, as the answer of tests in their order.
use Rattle.std.proofs.Common.{◌≡◌, ℕ, ◌+◌, ◌-◌, ◌<◌, Bool, true, false, not, List, [], ◌∷◌, ◌++◌, sym, refl, ap, ◌∙◌, ap₂, arith, eq-eqb, ne_eqb}
use borrow.Author.Tests.{not-true, not-false}
use Rattle.words.specs.Count.{lowest}
use Rattle.words.specs.Verdict.{Verdict, verdict, accepted, Test, single, and_then, outcome, then_tests, first_refusal}
use Rattle.words.proofs.Truth.{cond-true, cond-false}
use Rattle.words.proofs.VerdictLaws.{and-then-next, and-then-stays, then-join}

-- a search through words whose count has a name
pub search-count : {m n r : ℕ} (p : ℕ → Bool) → m ≡ n → r ≡ lowest m p → r ≡ lowest n p
search-count p e h = rw e at h

-- ---- what a search found, after the answer v

module _ (v : Verdict) (t : Test) where
  pub search-skipped : (v.number ≡ 0 → ⊥) → v ≡ and_then v (outcome t)
  search-skipped f = sym (and-then-stays v (outcome t) f)

  module _ {found : ℕ} {r : Verdict} (z : v.number ≡ 0) (e : found ≡ lowest t.count (λ j. not (t.ok j))) where
    pub search-none : found ≡ 0 → r ≡ accepted → r ≡ and_then v (outcome t)
    unfolding outcome
    search-none n a = a ∙ sym (and-then-next v (outcome t) z ∙ cond-true _ _ (eq-eqb _ 0 (sym e ∙ n)))

    pub search-found : {at : ℕ} → (found ≡ 0 → ⊥) → at ≡ t.place → r ≡ verdict t.number (at + found - 1) → r ≡ and_then v (outcome t)
    unfolding outcome
    search-found f p a =
        a ∙ ap₂ (λ (x y : ℕ). verdict t.number (x + y - 1)) p e ∙ sym (and-then-next v (outcome t) z ∙ cond-false _ _ (ne_eqb _ 0 (λ n. f (e ∙ n))))

-- ---- a list of tests that begins with one word

pub refused-stays : (v : Verdict) (ts : List Test) → (v.number ≡ 0 → ⊥) → then_tests v ts ≡ v
unfolding then_tests
refused-stays v [] f = refl
refused-stays v (t ∷ ts) f = ap (λ (x : Verdict). then_tests x ts) (and-then-stays v (outcome t) f) ∙ refused-stays v ts f

module _ {b ok : Bool} (number place : ℕ) (ts : List Test) (e : b ≡ ok) where
  pub begins-refused : {r : Verdict} {at : ℕ} → 0 < number → not b ≡ true → at ≡ place → r ≡ verdict number at → r ≡ first_refusal (single ok number place ∷ ts)
  unfolding then_tests outcome and_then lowest
  begins-refused h f p a =
      let o : ok ≡ false = sym e ∙ not-true b f in
      let k : place + 1 - 1 ≡ place = omega arith in
      a ∙ ap (verdict number) p ∙ sym (rw (o, k) (refused-stays (verdict number place) ts (λ z. omega arith)))

  pub begins-well : not b ≡ false → then_tests accepted ts ≡ first_refusal (single ok number place ∷ ts)
  unfolding then_tests outcome and_then lowest
  begins-well t =
      let o : ok ≡ true = sym e ∙ not-false b t in
      rw o

-- and its end
pub ends-well : {r : Verdict} → r ≡ accepted → r ≡ first_refusal []
unfolding then_tests
ends-well a = a

-- two tests after others, each after the answer before it
pub two-after : {v₀ v₁ v₂ : Verdict} (ts : List Test) (a b : Test) → v₀ ≡ first_refusal ts → v₁ ≡ and_then v₀ (outcome a) → v₂ ≡ and_then v₁ (outcome b)
    → v₂ ≡ first_refusal (ts ++ (a ∷ b ∷ []))
unfolding then_tests
two-after ts a b e₀ e₁ e₂ =
    e₂ ∙ ap (λ (v : Verdict). and_then v (outcome b)) (e₁ ∙ ap (λ (v : Verdict). and_then v (outcome a)) e₀) ∙ sym (then-join accepted ts (a ∷ b ∷ []))
