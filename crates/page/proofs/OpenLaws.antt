-- An opening with a page, by what the opening without one has answered.
use mathlib.Core.Path.{◌≡◌, refl, ap, ap₂, ◌∙◌, sym}
use mathlib.Core.Bool.{Bool, true, false}
use mathlib.Core.Logic.{⊎_elim}
use mathlib.Core.List.{List, [], ◌++◌}
use Prim.Native.Nat.{ℕ, ◌%◌, ◌≤◌}
use native.Mathlib.Omega.{arith}
use lib.ListN.{length}
use lib.Dec.{eqb}
use borrow.Author.Tests.{eq-eqb, ne_eqb, eqb-false}
use Rattle.words.specs.Word.{word_at}
use Rattle.words.proofs.Truth.{which, cond-true, cond-false}
use Rattle.words.specs.Verdict.{is_accepted}
use Rattle.setup.specs.Layout.{front_words}
use Rattle.setup.specs.Setup.{size_in, fades_in, front_in, front_of, setup_of}
use Rattle.setup.specs.declared.Setup.{Setup}
use Rattle.setup.specs.Check.{check_setup}
use Rattle.setup.proofs.SetupCheckLaws.{BytesFit, setup-pass}
use Rattle.setup.proofs.SetupRoundTrip.{read-shaped}
use Rattle.image.specs.Check.{check_image}
use Rattle.presence.specs.Valid.{Valid}
use Rattle.presence.specs.Opening.{fresh, blank, open_of}
use Rattle.presence.specs.Shown.{shown_view}
use Rattle.presence.specs.RoundTrip.{Shaped}
use Rattle.presence.specs.Image.{image_of, state_of, room_for}
use Rattle.presence.proofs.RoundTrip.{round_trip}
use Rattle.calls.specs.Calls.{Called, called, refused_call, wrote, open_call}
use Rattle.calls.specs.declared.Answer.{Answer}
use Rattle.presence.specs.declared.State.{State}
use Rattle.presence.specs.Opening.{Opened}
use Rattle.presence.proofs.StateStepLaws.{open-valid}
use Rattle.calls.proofs.ModuleCallLaws.{read-front}
use Rattle.calls.proofs.CallAnswers.{open-writes, open-passed}
use Rattle.page.specs.Page.{page_opened}
use Rattle.page.specs.Calls.{page_called, page_open_call}
use Rattle.page.proofs.WithPageLaws.{with-accepted, with-refused, with-before, with-nine}
use Rattle.page.proofs.PageCallLaws.{moved, refused-by, no_room, image-size, image-form, shown-back}

read-size : (s : List ℕ) → size_in (word_at s 0) ≡ (setup_of s).n
unfolding setup_of
read-size s = refl

module _ (setup : List ℕ) (own : ℕ) where
  abbrev opened : Opened
  opened = open_of (setup_of setup) own

  bad-setup : (out : List ℕ) → is_accepted (check_setup setup) ≡ false
      → open_call setup own out ≡ refused_call (check_setup setup).number (check_setup setup).index out
  unfolding open_call
  bad-setup out f = cond-false _ _ f

  bad-own : (out : List ℕ) → is_accepted (check_setup setup) ≡ true → eqb opened.number 0 ≡ false
      → open_call setup own out ≡ refused_call opened.number opened.index out
  unfolding open_call
  bad-own out t f = cond-true _ _ t ∙ cond-false _ _ f

  bad-output : (out : List ℕ) → is_accepted (check_setup setup) ≡ true → eqb opened.number 0 ≡ true → room_for opened.state out ≡ false
      → open_call setup own out ≡ refused_call 9 0 out
  unfolding open_call
  bad-output out t n f = cond-true _ _ t ∙ cond-true _ _ n ∙ cond-false _ _ f

  opens : (out : List ℕ) → is_accepted (check_setup setup) ≡ true → eqb opened.number 0 ≡ true → room_for opened.state out ≡ true
      → (open_call setup own out).answer.number ≡ 0
  unfolding open_call wrote
  opens out t n m = ap (λ (c : Called). c.answer.number) (cond-true _ _ t ∙ cond-true _ _ n ∙ cond-true _ _ m)

  module _ (out page : List ℕ) {r : Answer} {l : List ℕ} (e : called r l ≡ open_call setup own []) (f : length page ≡ 64 → ⊥) where
    -- the same refusal by both
    as_lent : (number index : ℕ) → open_call setup own [] ≡ refused_call number index [] → open_call setup own out ≡ refused_call number index out
        → (number ≡ 0 → ⊥) → page_called (called r (l ++ out)) page ≡ page_open_call setup own out page
    unfolding page_open_call
    as_lent number index g h n =
        moved out page number index (e ∙ g) ∙ ap (λ (c : Called). page_called c page) (sym h)
        ∙ with-before _ (open_call setup own out) out page _ (ne_eqb _ 0 (refused-by number index out h n)) (refused-by number index out h n)

    -- the page alone is refused
    page-alone : open_call setup own [] ≡ refused_call 9 0 [] → (open_call setup own out).answer.number ≡ 0
        → page_called (called r (l ++ out)) page ≡ page_open_call setup own out page
    unfolding page_open_call
    page-alone g z = moved out page 9 0 (e ∙ g) ∙ with-nine _ (open_call setup own out) out page _ (eq-eqb _ 0 z) f

    -- asked with an output of no bytes, an opening answers what goes before 9, or 9
    pub open-no-page : page_called (called r (l ++ out)) page ≡ page_open_call setup own out page
    open-no-page =
        ⊎_elim
        (λ (t : is_accepted (check_setup setup) ≡ true). ⊎_elim
        (λ (n : eqb opened.number 0 ≡ true).
        let g = bad-output [] t n (no_room opened.state) in
        ⊎_elim (λ (m : room_for opened.state out ≡ true). page-alone g (opens out t n m))
        (λ (m : room_for opened.state out ≡ false). as_lent 9 0 g (bad-output out t n m) (λ x. omega arith))
        (which (room_for opened.state out)))
        (λ (n : eqb opened.number 0 ≡ false). as_lent _ _ (bad-own [] t n) (bad-own out t n) (eqb-false opened.number 0 n))
        (which (eqb opened.number 0)))
        (λ (n : is_accepted (check_setup setup) ≡ false). as_lent _ _ (bad-setup [] n) (bad-setup out n) (eqb-false (check_setup setup).number 0 n))
        (which (is_accepted (check_setup setup)))

  module _ (out : List ℕ) {r : Answer} {b : List ℕ} (e : called r b ≡ open_call setup own out) where
    pub open-refused : (page : List ℕ) → length page ≡ 64 → (r.number ≡ 0 → ⊥) → page_called (called r b) page ≡ page_open_call setup own out page
    unfolding page_open_call
    open-refused page l f =
        ap (λ (c : Called). page_called c page) e
        ∙ with-refused _ (open_call setup own out) out page _ l (λ z. f (ap (λ (c : Called). c.answer.number) e ∙ z))

    module _ (z : r.number ≡ 0) where
      answered : (open_call setup own out).answer.number ≡ 0
      answered = ap (λ (c : Called). c.answer.number) (sym e) ∙ z

      fits : BytesFit setup
      fits = setup-pass setup (open-passed setup own out answered).0

      fresh-valid : Valid opened.state
      fresh-valid = open-valid (setup_of setup) own (open-passed setup own out answered).1

      fresh-shaped : Shaped opened.state
      fresh-shaped =
          let (ok, zero) = open-passed setup own out answered in
          (round_trip.opens (setup_of setup) own (read-shaped setup ok) zero).1

      wrote-image : b ≡ image_of opened.state
      wrote-image = ap (λ (c : Called). c.out) e ∙ open-writes setup own out answered

      pub setup-room : 4 ≤ length setup
      setup-room = fits.front.room

      pub setup-whole : length setup % 4 ≡ 0
      setup-whole = fits.front.whole

      -- what was opened is fresh, with the setup that was read
      setup-is : opened.state.setup ≡ setup_of setup
      unfolding open_of fresh
      setup-is =
          ap (λ (x : State). x.setup)
          (cond-true (fresh (setup_of setup) own) blank (eq-eqb opened.number 0 (open-passed setup own out answered).1))

      module _ {n front : ℕ} {form : Bool} (size : n ≡ size_in (word_at setup 0)) (fades : form ≡ fades_in (word_at setup)) (at : front ≡ front_words form) where
        size_is : n ≡ opened.state.setup.n
        size_is = size ∙ read-size setup ∙ ap (λ (x : Setup). x.n) (sym setup-is)

        front-is : front ≡ front_of opened.state.setup
        front-is = at ∙ ap front_words fades ∙ sym (read-front setup) ∙ ap front_of (sym setup-is)

        pub few : n ≤ 16
        few =
            let f = fits.front.most in
            omega arith

        -- the image that was written, as what is shown of it is asked for
        pub in-fresh : ((check_image b).number ≡ 0) × (front ≡ front_in (word_at b)) × (n ≡ size_in (word_at b 0))
        in-fresh = (
          (shown-back opened.state fresh-valid fresh-shaped wrote-image).0,
          front-is ∙ ap front_words (sym (image-form opened.state fresh-valid)) ∙ ap (λ (x : List ℕ). front_in (word_at x)) (sym wrote-image),
          size_is ∙ sym (image-size opened.state fresh-valid) ∙ ap (λ (x : List ℕ). size_in (word_at x 0)) (sym wrote-image),
        )

        pub open-paged : (page : List ℕ) {w : ℕ} {p : List ℕ} → length page ≡ 64 → w ≡ shown_view (state_of b) → p ≡ page_opened n w
            → page_called (called r b) p ≡ page_open_call setup own out page
        unfolding page_open_call
        open-paged page {w} {p} l view h =
            let a : w ≡ shown_view opened.state = view ∙ (shown-back opened.state fresh-valid fresh-shaped wrote-image).1 in
            ap₂ page_called e (h ∙ ap₂ page_opened size_is a) ∙ with-accepted _ (open_call setup own out) out page _ l answered
