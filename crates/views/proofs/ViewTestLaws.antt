-- The tests of the words of the views, one after the other, as the code asks them.
use Rattle.std.proofs.Common.{◌≡◌, refl, ap, ap₂, sym, ◌∙◌, ℕ, ◌+◌, ◌^◌, Bool, true, false, ◌&&◌, eqb, leb, ltb, Result, Ok, Err}
use Rattle.words.specs.Count.{all}
use Rattle.words.specs.Verdict.{Verdict, single, each, outcome, first_refusal, all_right}
use Rattle.words.specs.Refusal.{refusal_told, told}
use Rattle.words.specs.declared.Refusal.{Refusal}
use Rattle.words.proofs.VerdictLaws.{and-end, numbered}
use Rattle.words.proofs.RefusalLaws.{first-stops, first-goes, first-last, single-by}
use Rattle.views.specs.Section.{view_ok, view_tests}

-- ---- one test after the other

-- code has asked of a word x, where the test asks of y
is : {x y : ℕ} (view place : ℕ) {v : Verdict} → x ≡ y → v ≡ outcome (single (eqb x view) 8 place) → v ≡ outcome (single (eqb y view) 8 place)
is view place e h = single-by 8 place (ap (λ (x : ℕ). eqb x view) e) h

below : {x y size most : ℕ} (place : ℕ) {v : Verdict} → x ≡ y → size ≡ most → v ≡ outcome (single (ltb x size) 8 place) → v ≡ outcome (single (ltb y most) 8 place)
below place e p h = single-by 8 place (ap₂ ltb e p) h

module _ {A : Type 0} (w : ℕ → ℕ) (n view at : ℕ) {r₀ : Result A Refusal} (h₀ : told r₀ ≡ outcome (each n (λ j. view_ok n (w (at + j))) 8 at)) where
  pub words-stop : {e : Refusal} → r₀ ≡ Err e → refusal_told e ≡ first_refusal (view_tests true w n view at)
  words-stop = first-stops _ _ h₀

  module _ {x₀ : A} {latest : ℕ} {r₁ : Result A Refusal} (i₀ : r₀ ≡ Ok x₀) (a : latest ≡ w (at + n)) (h₁ : told r₁ ≡ outcome (single (eqb latest view) 8 (at + n))) where
    pub latest-stops : {e : Refusal} → r₁ ≡ Err e → refusal_told e ≡ first_refusal (view_tests true w n view at)
    latest-stops i = first-goes _ _ h₀ i₀ (first-stops _ _ (is _ _ a h₁) i)

    module _ {x₁ : A} {size earlier : ℕ} {r₂ : Result A Refusal} (i₁ : r₁ ≡ Ok x₁) (p : size ≡ 2 ^ n) (b : earlier ≡ w (at + n + 1)) (h₂ : told r₂ ≡ outcome (single (ltb earlier size) 8 (at + n + 1))) where
      pub earlier-stops : {e : Refusal} → r₂ ≡ Err e → refusal_told e ≡ first_refusal (view_tests true w n view at)
      earlier-stops i = first-goes _ _ h₀ i₀ (first-goes _ _ (is _ _ a h₁) i₁ (first-stops _ _ (below _ b p h₂) i))

      module _ {x₂ : A} {adopted : ℕ} {r₃ : Result A Refusal} (i₂ : r₂ ≡ Ok x₂) (c : adopted ≡ w (at + n + 2)) (h₃ : told r₃ ≡ outcome (single (ltb adopted size) 8 (at + n + 2))) where
        pub adopted-stops : {e : Refusal} → r₃ ≡ Err e → refusal_told e ≡ first_refusal (view_tests true w n view at)
        adopted-stops i = first-goes _ _ h₀ i₀ (first-goes _ _ (is _ _ a h₁) i₁ (first-goes _ _ (below _ b p h₂) i₂ (first-stops _ _ (below _ c p h₃) i)))

        pub views-told : {x₃ : A} {last : ℕ} {v : Verdict} → r₃ ≡ Ok x₃ → last ≡ w (at + n + 3) → v ≡ outcome (single (leb last 1) 8 (at + n + 3))
            → v ≡ first_refusal (view_tests true w n view at)
        views-told i₃ d h =
            let e = single-by 8 (at + n + 3) (ap (λ (x : ℕ). leb x 1) d) h in
            first-goes _ _ h₀ i₀ (first-goes _ _ (is _ _ a h₁) i₁ (first-goes _ _ (below _ b p h₂) i₂ (first-goes _ _ (below _ c p h₃) i₃ (first-last _ e))))

module _ (w : ℕ → ℕ) (n view at : ℕ) where
  -- all at once
  pub right_by : {good : Bool} {size latest earlier adopted last : ℕ} → good ≡ all n (λ j. view_ok n (w (at + j))) → size ≡ 2 ^ n → latest ≡ w (at + n)
      → earlier ≡ w (at + n + 1) → adopted ≡ w (at + n + 2) → last ≡ w (at + n + 3)
      → good && (eqb latest view && (ltb earlier size && (ltb adopted size && leb last 1))) ≡ all_right (view_tests true w n view at)
  unfolding all_right all
  right_by g p a b c d =
      (λ i. g i && (eqb (a i) view && (ltb (b i) (p i) && (ltb (c i) (p i) && leb (d i) 1))))
      ∙ ap (λ (x : Bool). all n (λ j. view_ok n (w (at + j))) && (eqb (w (at + n)) view && (ltb (w (at + n + 1)) (2 ^ n) && (ltb (w (at + n + 2)) (2 ^ n) && x))))
      (sym (and-end (leb (w (at + n + 3)) 1)))

-- each refuses by number 8
pub views-numbered : (b : Bool) (w : ℕ → ℕ) (n view at : ℕ) → numbered (view_tests b w n view at) ≡ true
unfolding numbered
views-numbered true w n view at = refl
views-numbered false w n view at = refl
