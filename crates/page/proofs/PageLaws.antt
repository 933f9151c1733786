-- The words of a page, put together from what was read and made.
use mathlib.Core.Path.{◌≡◌, ap, ap₂, ◌∙◌, sym}
use mathlib.Core.Bool.{Bool, not}
use mathlib.Core.List.{List}
use Prim.Native.Nat.{ℕ}
use lib.Dec.{eqb}
use borrow.Author.Tests.{eq-eqb, ne_eqb}
use Rattle.words.specs.Word.{word_at, put_word}
use Rattle.words.proofs.Truth.{cond-true, cond-false}
use Rattle.page.specs.Flags.{cleared, shared}
use Rattle.page.specs.Page.{put_causes, somebody_charged, raised, page_stepped, page_written, interrupt_on}

-- w and v are words 1 and 2 of the page before the step
pub stepped-made : (n before health after : ℕ) (causes page : List ℕ) {a b d r : List ℕ} {w v f : ℕ} {charged : Bool} → w ≡ word_at page 1
    → v ≡ word_at page 2 → charged ≡ somebody_charged n before health → f ≡ raised v (not (eqb w after)) charged → a ≡ put_word page 0 health
    → b ≡ put_word a 1 after → d ≡ put_word b 2 f → r ≡ put_causes causes d → r ≡ page_stepped n before health after causes page
unfolding page_stepped
stepped-made n before health after causes page {a} {b} {d} {r} {w} {v} {f} {charged} e₁ e₂ e h p q s t =
    let g : f ≡ raised (word_at page 2) (not (eqb (word_at page 1) after)) (somebody_charged n before health) =
    h ∙ ap (λ (x : ℕ). raised v (not (eqb x after)) charged) e₁ ∙ ap₂ (λ (x : ℕ) (y : Bool). raised x (not (eqb (word_at page 1) after)) y) e₂ e
    in
    t ∙ ap (put_causes causes) (s ∙ ap₂ (λ (x : List ℕ) (y : ℕ). put_word x 2 y) (q ∙ ap (λ (x : List ℕ). put_word x 1 after) p) g)

module _ (offset value : ℕ) (page : List ℕ) {r : List ℕ} where
  -- w is word 2 of the page before the write
  pub written-flags : {w f : ℕ} → w ≡ word_at page 2 → f ≡ cleared w value → r ≡ put_word page 2 f → offset ≡ 8 → r ≡ page_written offset value page
  unfolding page_written
  written-flags e h s o =
      s ∙ ap (put_word page 2) (h ∙ ap (λ (x : ℕ). cleared x value) e) ∙ sym (cond-true _ _ (eq-eqb offset 8 o))

  pub written-enable : r ≡ put_word page 3 value → (offset ≡ 8 → ⊥) → r ≡ page_written offset value page
  unfolding page_written
  written-enable s o = s ∙ sym (cond-false _ _ (ne_eqb offset 8 o))

pub interrupt-made : (page : List ℕ) {w v : ℕ} {r : Bool} → w ≡ word_at page 2 → v ≡ word_at page 3 → r ≡ shared w v → r ≡ interrupt_on page
unfolding interrupt_on
interrupt-made page e h s = s ∙ ap₂ shared e h
