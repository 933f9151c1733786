-- What the host's calls answer, by their tests.
use mathlib.Core.Path.{◌≡◌, refl, ap, ◌∙◌, sym, subst}
use mathlib.Core.Logic.{◌≢◌, ⊎_elim}
use mathlib.Core.Bool.{Bool, true, false, ◌||◌}
use mathlib.Core.List.{List}
use Prim.Native.Nat.{ℕ, ◌+◌, ◌*◌, ◌/◌, ◌%◌, ◌≤◌}
use native.Mathlib.Omega.{arith}
use lib.ListN.{length}
use lib.Dec.{eqb, ltb}
use borrow.Author.Tests.{eq-eqb, ne_eqb, eqb-true, ltb-true}
use Rattle.words.specs.Word.{word_at, put_word}
use Rattle.words.specs.Bits.{b2n}
use Rattle.words.proofs.Truth.{which, cond-true, cond-false, cond_both, and_r}
use Rattle.page.specs.Flags.{cleared}
use Rattle.page.specs.Page.{is_page, starts_word, page_written, interrupt_on}
use Rattle.page.specs.Host.{tell, read_call, Written, written, wrote_page, write_call, interrupt_call}
use Rattle.calls.specs.declared.WordAnswer.{WordAnswer}

or_none : (a b : Bool) → a ≡ false → b ≡ false → a || b ≡ false
or_none a b f g = rw (f, g) refl

-- ---- a page of another length

module _ (page : List ℕ) (f : is_page page ≡ false) {r : WordAnswer} (s : r ≡ tell 9 0) where
  pub read_short : (offset : ℕ) → r ≡ read_call page offset
  unfolding read_call
  read_short offset = s ∙ sym (cond-false _ _ f)

  pub write-short : (offset value : ℕ) → written r page ≡ write_call page offset value
  unfolding write_call
  write-short offset value = ap (λ (x : WordAnswer). written x page) s ∙ sym (cond-false _ _ f)

  pub interrupt-short : r ≡ interrupt_call page
  unfolding interrupt_call
  interrupt-short = s ∙ sym (cond-false _ _ f)

-- ---- a page of 64 bytes

module _ (page : List ℕ) (l : is_page page ≡ true) where
  pub long : length page ≡ 64
  long = eqb-true (length page) 64 l

  pub interrupt-told : {i : Bool} {w : ℕ} → i ≡ interrupt_on page → w ≡ b2n i → tell 0 w ≡ interrupt_call page
  unfolding interrupt_call
  interrupt-told h k = ap (tell 0) (k ∙ ap b2n h) ∙ sym (cond-true _ _ l)

  -- b is whether the offset starts a word
  module _ (offset : ℕ) {b : Bool} (e : b ≡ starts_word offset) where
    module _ (f : b ≡ false) {r : WordAnswer} (s : r ≡ tell 17 0) where
      pub read_off : r ≡ read_call page offset
      unfolding read_call
      read_off = s ∙ sym (cond-true _ _ l ∙ cond-false _ _ (sym e ∙ f))

      pub write-off : (value : ℕ) → written r page ≡ write_call page offset value
      unfolding write_call
      write-off value = ap (λ (x : WordAnswer). written x page) s ∙ sym (cond-true _ _ l ∙ cond-false _ _ (sym e ∙ f))

    module _ (t : b ≡ true) where
      starts : starts_word offset ≡ true
      starts = sym e ∙ t

      -- its word lies in the page
      pub word_fits : offset / 4 * 4 + 4 ≤ length page
      word_fits =
          let h = ltb-true offset 64 (and_r (eqb (offset % 4) 0) (ltb offset 64) starts) in
          omega (arith, long)

      pub read_told : {w : ℕ} → w ≡ word_at page (offset / 4) → tell 0 w ≡ read_call page offset
      unfolding read_call
      read_told h = ap (tell 0) h ∙ sym (cond-true _ _ l ∙ cond-true _ _ starts)

      module _ (value : ℕ) where
        pub write-outside : {r : WordAnswer} → eqb offset 8 || eqb offset 12 ≡ false → r ≡ tell 18 0 → written r page ≡ write_call page offset value
        unfolding write_call
        write-outside o s = ap (λ (x : WordAnswer). written x page) s ∙ sym (cond-true _ _ l ∙ cond-true _ _ starts ∙ cond-false _ _ o)

        -- p is the page after the write, i the interrupt in it, and w tells it
        pub write_done : {p : List ℕ} {i : Bool} {w : ℕ} → eqb offset 8 || eqb offset 12 ≡ true
            → p ≡ page_written offset value page → i ≡ interrupt_on p → w ≡ b2n i → written (tell 0 w) p ≡ write_call page offset value
        unfolding write_call wrote_page
        write_done {p} o g h k =
            ap (λ (x : WordAnswer). written x p) (ap (tell 0) (k ∙ ap b2n h))
            ∙ ap (λ (x : List ℕ). written (tell 0 (b2n (interrupt_on x))) x) g
            ∙ sym (cond-true _ _ l ∙ cond-true _ _ starts ∙ cond-true _ _ o)

-- ---- what becomes of a page by a write: it stays, or it is of 64 bytes and is written

pub write-either : (page : List ℕ) (offset value : ℕ) (P : List ℕ → Type 0) → P page → (length page ≡ 64 → P (page_written offset value page))
    → P (write_call page offset value).page
unfolding write_call wrote_page
write-either page offset value P p q =
    ⊎_elim
    (λ (t : is_page page ≡ true).
    subst (λ (w : Written). P w.page) (sym (cond-true _ _ t))
    (cond_both (λ (w : Written). P w.page) (starts_word offset) _ _
    (cond_both (λ (w : Written). P w.page) (eqb offset 8 || eqb offset 12) _ _ (q (eqb-true (length page) 64 t)) p) p))
    (λ (f : is_page page ≡ false). subst (λ (w : Written). P w.page) (sym (cond-false _ _ f)) p) (which (is_page page))

-- a write that is accepted
pub write-8 : (page : List ℕ) (value : ℕ) → length page ≡ 64 → (write_call page 8 value).page ≡ put_word page 2 (cleared (word_at page 2) value)
unfolding write_call wrote_page page_written
write-8 page value l = ap (λ (w : Written). w.page) (cond-true _ _ (eq-eqb (length page) 64 l))

pub write-12 : (page : List ℕ) (value : ℕ) → length page ≡ 64 → (write_call page 12 value).page ≡ put_word page 3 value
unfolding write_call wrote_page page_written
write-12 page value l = ap (λ (w : Written). w.page) (cond-true _ _ (eq-eqb (length page) 64 l))

-- and one that is not
pub write-none : (page : List ℕ) (offset value : ℕ) → offset ≢ 8 → offset ≢ 12 → (write_call page offset value).page ≡ page
unfolding write_call
write-none page offset value f g =
    cond_both (λ (w : Written). w.page ≡ page) (is_page page) _ _
    (cond_both (λ (w : Written). w.page ≡ page) (starts_word offset) _ _ (ap (λ (w : Written). w.page) (cond-false _ _ outside)) refl) refl
  where
    outside : eqb offset 8 || eqb offset 12 ≡ false
    outside = or_none _ _ (ne_eqb offset 8 f) (ne_eqb offset 12 g)
