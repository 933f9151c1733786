-- An accepted image holds a state within the limits, whose syndromes and local views make words that are heard.
use mathlib.Core.Path.{◌≡◌, refl, sym, ap, ◌∙◌, subst}
use mathlib.Core.Bool.{true, false}
use mathlib.Core.List.{List}
use Prim.Native.Nat.{ℕ, ◌<◌, ◌≤◌, ◌^◌}
use borrow.Author.Tests.{eq-eqb}
use Rattle.words.specs.Word.{word_at}
use Rattle.words.specs.Verdict.{is_accepted}
use Rattle.words.proofs.Truth.{cond-true, cond-false, cond_both}
use Rattle.words.proofs.VerdictLaws.{between-of}
use Rattle.rules.specs.Hearing.{reception_of, heard_row, cause_in, word_heard}
use Rattle.rules.specs.Hearing.{Reception}
use Rattle.rules.proofs.ReceptionLaws.{bus-heard}
use Rattle.rules.proofs.Causes.{zero-heard}
use Rattle.setup.specs.Setup.{partitionable_in, setup_of}
use Rattle.views.specs.ViewWord.{view_word, view_word_heard}
use Rattle.image.specs.Check.{check_image}
use Rattle.presence.specs.Step.{mark_of}
use Rattle.presence.specs.Image.{state_of}
use Rattle.presence.specs.declared.State.{State}
use Rattle.presence.proofs.ValidLaws.{StateFits, valid-fits}
use Rattle.presence.proofs.ImageState.{load-valid}
use Rattle.presence.proofs.Outgoing.{outgoing-words}
use Rattle.calls.specs.Calls.{handed_out, outgoing_call, view_handed_out, outgoing_view_call, cause_call}
use Rattle.calls.specs.Refusals.{size_of}
use Rattle.calls.specs.OutgoingImage.{OutgoingImage}
use Rattle.calls.specs.declared.CauseAnswer.{CauseAnswer}

-- what the call answers of a reception
abbrev told : Reception → CauseAnswer
told r = record { number = 0; index = 0; cause = cause_in r; row = heard_row r }

module _ (image : List ℕ) (z : (outgoing_call image).number ≡ 0) where
  abbrev st : State
  st = state_of image

  passed : (check_image image).number ≡ 0
  unfolding outgoing_call
  passed = z

  fits : StateFits st
  fits = valid-fits st (load-valid image passed)

  handed : word_heard st.setup.n (handed_out st) ≡ true
  unfolding handed_out
  handed =
      bus-heard st.setup.n _ fits.setup.most
      (cond_both (λ v. v < 2 ^ st.setup.n) (mark_of st) st.earlier st.latest fits.earlier fits.latest)

  word-is : (outgoing_call image).word ≡ handed_out st
  unfolding outgoing_call
  word-is = cond-true _ _ (eq-eqb (check_image image).number 0 passed)

  size_is : st.setup.n ≡ size_of image
  unfolding state_of setup_of
  size_is = refl

  heard : word_heard (size_of image) (outgoing_call image).word ≡ true
  heard = ap (λ (w : ℕ). word_heard (size_of image) w) word-is ∙ ap (λ (n : ℕ). word_heard n (handed_out st)) (sym size_is) ∙ handed

  answered : cause_call (size_of image) 1 (outgoing_call image).word ≡ told (reception_of (size_of image) true (outgoing_call image).word)
  unfolding cause_call
  answered =
      cond-true _ _
      (between-of 2 16 (size_of image) (subst (λ (n : ℕ). 2 ≤ n) size_is fits.setup.least) (subst (λ (n : ℕ). n ≤ 16) size_is fits.setup.most))

-- ---- the view word

module _ (image : List ℕ) where
  abbrev held : State
  held = state_of image

  view-is : (check_image image).number ≡ 0 → (outgoing_view_call image).word ≡ view_handed_out held
  unfolding outgoing_view_call
  view-is z = cond-true _ _ (eq-eqb (check_image image).number 0 z)

  heard-view : partitionable_in (word_at image 0) ≡ true → (outgoing_view_call image).number ≡ 0 → view_word_heard (size_of image) (outgoing_view_call image).word ≡ true
  unfolding outgoing_view_call view_handed_out state_of setup_of
  heard-view t z =
      let v = load-valid image z in
      ap (view_word_heard (size_of image)) (view-is z ∙ cond-true _ _ t)
      ∙ cond_both (λ (w : ℕ). view_word_heard (size_of image) (view_word w) ≡ true) (mark_of held) held.views.earlier held.counters.view
      (outgoing-words.view-earlier held t v) (outgoing-words.view-latest held v)

  without-view : partitionable_in (word_at image 0) ≡ false → (outgoing_view_call image).word ≡ 0
  unfolding outgoing_view_call view_handed_out state_of setup_of
  without-view f = cond_both (λ (w : ℕ). w ≡ 0) (is_accepted (check_image image)) _ 0 (cond-false _ _ f) refl

pub outgoing-image : OutgoingImage
outgoing-image = record {
  heard = heard;
  view-heard = heard-view;
  no-view = without-view;
  cause = λ image z. (
    ap (λ (a : CauseAnswer). a.number) (answered image z),
    ap (λ (a : CauseAnswer). a.cause) (answered image z) ∙ (zero-heard _).1 (heard image z),
  );
}
