-- A step with a page, by what the step without one has answered.
use mathlib.Core.Path.{◌≡◌, ap, ap₂, ◌∙◌, sym, subst}
use mathlib.Core.Bool.{Bool, true, false}
use mathlib.Core.Logic.{⊎_elim}
use mathlib.Core.List.{List, [], ◌++◌}
use Prim.Native.Nat.{ℕ, ◌*◌, ◌%◌, ◌^◌, ◌<◌, ◌≤◌}
use native.Mathlib.Omega.{arith}
use lib.ListN.{length, get_or}
use borrow.Author.Tests.{eqb-false}
use Rattle.words.specs.Word.{word_at}
use Rattle.words.proofs.Truth.{which, cond-true, cond-false}
use Rattle.words.specs.Verdict.{is_accepted}
use Rattle.setup.specs.Layout.{front_words}
use Rattle.setup.specs.Setup.{size_in, fades_in, front_in, front_of, setup_of}
use Rattle.views.proofs.ViewWordLaws.{words-least}
use Rattle.setup.specs.declared.Setup.{Setup}
use Rattle.rules.specs.Hearing.{causes_of}
use Rattle.rules.proofs.Causes.{codes-small}
use Rattle.changes.specs.Books.{turned, counted, books_after}
use Rattle.changes.proofs.TurnLaws.{turned-size, turned-fades}
use Rattle.image.specs.Check.{check_image}
use Rattle.image.proofs.TailLaws.{ImageFits, image-pass}
use Rattle.presence.specs.Valid.{Valid}
use Rattle.presence.specs.Step.{books_of, found_view, accepted_step, after_round, step_of}
use Rattle.presence.specs.Shown.{shown_view}
use Rattle.presence.specs.RoundTrip.{Shaped}
use Rattle.presence.specs.Image.{image_of, state_of}
use Rattle.presence.proofs.RoundTrip.{round_trip}
use Rattle.calls.specs.Calls.{Called, called, refused_call, step_call}
use Rattle.calls.specs.declared.Answer.{Answer}
use Rattle.presence.specs.declared.State.{State}
use Rattle.presence.specs.Step.{Stepped}
use Rattle.presence.proofs.ValidLaws.{StateFits, valid-fits}
use Rattle.presence.proofs.StateStepLaws.{step-accepted, step-whole, step-valid}
use Rattle.presence.proofs.ImageState.{load-valid}
use Rattle.calls.proofs.ModuleCallLaws.{read-form}
use Rattle.calls.proofs.CallAnswers.{step-writes, step-passed}
use Rattle.page.specs.Page.{page_stepped}
use Rattle.page.specs.Calls.{page_called, page_step_call}
use Rattle.page.proofs.WithPageLaws.{with-accepted, with-refused, with-before, with-nine}
use Rattle.page.proofs.PageCallLaws.{moved, refused-by, no-room-after, image-size, image-form, shown-back}
use Rattle.page.proofs.FoundLaws.{found-small}

-- the causes of a read are codes
pub codes-of : (n : ℕ) (read : List ℕ) (controller : ℕ) {causes : List ℕ} → n ≤ 16 → causes ≡ causes_of n read controller
    → (k : ℕ) → k < 16 → get_or causes k 0 ≤ 3
codes-of n read controller small e k h = subst (λ (x : List ℕ). get_or x k 0 ≤ 3) (sym e) (codes-small n read controller k small h)

module _ (image read : List ℕ) (controller : ℕ) where
  bad-image : (out : List ℕ) → is_accepted (check_image image) ≡ false
      → step_call image read controller out ≡ refused_call (check_image image).number (check_image image).index out
  unfolding step_call
  bad-image out f = cond-false _ _ f

  no_output : is_accepted (check_image image) ≡ true → step_call image read controller [] ≡ refused_call 9 0 []
  unfolding step_call
  no_output t = cond-true _ _ t ∙ cond-false _ _ (no-room-after (state_of image))

  -- asked with an output of no bytes, a step answers what goes before 9, or 9
  pub step-no-page : (out page : List ℕ) {r : Answer} {l : List ℕ} → called r l ≡ step_call image read controller [] → (length page ≡ 64 → ⊥)
      → page_called (called r (l ++ out)) page ≡ page_step_call image read controller out page
  unfolding page_step_call
  step-no-page out page {r} {l} e f =
      ⊎_elim
      (λ (t : is_accepted (check_image image) ≡ true). moved out page 9 0 (e ∙ no_output t) ∙ with-nine _ (step_call image read controller out) out page _ t f)
      (λ (n : is_accepted (check_image image) ≡ false).
      moved out page _ _ (e ∙ bad-image [] n) ∙ ap (λ (c : Called). page_called c page) (sym (bad-image out n))
      ∙ with-before _ (step_call image read controller out) out page _ n (refused-by _ _ out (bad-image out n) (eqb-false (check_image image).number 0 n))) (which (is_accepted (check_image image)))

  module _ (out : List ℕ) {r : Answer} {b : List ℕ} (e : called r b ≡ step_call image read controller out) where
    pub step-refused : (page : List ℕ) → length page ≡ 64 → (r.number ≡ 0 → ⊥)
        → page_called (called r b) page ≡ page_step_call image read controller out page
    unfolding page_step_call
    step-refused page l f =
        ap (λ (c : Called). page_called c page) e
        ∙ with-refused _ (step_call image read controller out) out page _ l (λ z. f (ap (λ (c : Called). c.answer.number) e ∙ z))

    module _ (z : r.number ≡ 0) where
      abbrev st : State
      st = state_of image

      abbrev s : Stepped
      s = step_of st read controller

      answered : (step_call image read controller out).answer.number ≡ 0
      answered = ap (λ (c : Called). c.answer.number) (sym e) ∙ z

      fits : ImageFits image
      fits = image-pass image (step-passed image read controller out answered).0

      accepted : s.number ≡ 0
      accepted = (step-passed image read controller out answered).1

      pub checked : (check_image image).number ≡ 0
      checked = (step-passed image read controller out answered).0

      valid : StateFits st
      valid = valid-fits st (load-valid image checked)

      -- size and form stay
      setup-is : s.state.setup ≡ (turned (books_of st)).setup
      unfolding accepted_step after_round books_after counted
      setup-is = ap (λ (x : Stepped). x.state.setup) (step-accepted st read controller accepted).1

      same_size : s.state.setup.n ≡ st.setup.n
      same_size = ap (λ (x : Setup). x.n) setup-is ∙ turned-size (books_of st)

      same-front : front_of s.state.setup ≡ front_of st.setup
      same-front = ap front_of setup-is ∙ ap front_words (turned-fades (books_of st) valid.pending)

      causes-are : s.causes ≡ causes_of st.setup.n read controller
      unfolding accepted_step
      causes-are = ap (λ (x : Stepped). x.causes) (step-accepted st read controller accepted).1

      wrote-image : b ≡ image_of s.state
      wrote-image = ap (λ (c : Called). c.out) e ∙ (step-writes image read controller out answered).0

      next-valid : Valid s.state
      next-valid = step-valid st read controller accepted

      next-shaped : Shaped s.state
      next-shaped = (round_trip.keeps st read controller (round_trip.read-accepted image checked).1 accepted).1

      pub image-room : 4 ≤ length image
      image-room = fits.front.room

      pub image-whole : length image % 4 ≡ 0
      image-whole = fits.front.whole

      module _ {n : ℕ} (size : n ≡ size_in (word_at image 0)) where
        size_is : n ≡ st.setup.n
        unfolding state_of setup_of
        size_is = size

        -- the read has N words at least
        pub in-read : (n ≤ 16) × (n * 4 ≤ length read)
        in-read =
            let f = fits.front.most in
            (omega arith, omega (arith, step-whole st read controller accepted, words-least st.setup.partitionable st.setup.n, size_is))

        module _ {front : ℕ} {form : Bool} (fades : form ≡ fades_in (word_at image)) (at : front ≡ front_words form) where
          front-is : front ≡ front_of st.setup
          front-is = at ∙ ap front_words (fades ∙ sym (read-form image))

          -- the image that was written, as what is shown of it is asked for
          pub in-output : ((check_image b).number ≡ 0) × (front ≡ front_in (word_at b)) × (n ≡ size_in (word_at b 0))
          in-output = (
            (shown-back s.state next-valid next-shaped wrote-image).0,
            front-is ∙ sym same-front ∙ ap front_words (sym (image-form s.state next-valid)) ∙ ap (λ (x : List ℕ). front_in (word_at x)) (sym wrote-image),
            size_is ∙ sym same_size ∙ sym (image-size s.state next-valid) ∙ ap (λ (x : List ℕ). size_in (word_at x 0)) (sym wrote-image),
          )

          module _ {v : ℕ} (before : v ≡ found_view st) where
            pub before_small : v < 2 ^ n
            before_small =
                subst (λ (k : ℕ). v < 2 ^ k) (sym size_is) (subst (λ (x : ℕ). x < 2 ^ st.setup.n) (sym before) (found-small st valid))

            pub step-paged : (page : List ℕ) {w : ℕ} {p q : List ℕ} → length page ≡ 64 → w ≡ shown_view (state_of b) → q ≡ causes_of n read controller
                → p ≡ page_stepped n v r.health w q page
                → page_called (called r b) p ≡ page_step_call image read controller out page
            unfolding page_step_call
            step-paged page {w} {p} {q} l after cs h =
                let a : w ≡ shown_view s.state = after ∙ (shown-back s.state next-valid next-shaped wrote-image).1 in
                let k : r.health ≡ s.health = ap (λ (c : Called). c.answer.health) e ∙ (step-writes image read controller out answered).1 in
                let d : q ≡ s.causes = cs ∙ ap (λ (m : ℕ). causes_of m read controller) size_is ∙ sym causes-are in
                let g : p ≡ page_stepped st.setup.n (found_view st) s.health (shown_view s.state) s.causes page =
                h ∙ ap₂ (λ (x y : ℕ). page_stepped x y r.health w q page) size_is before
                ∙ ap₂ (λ (x y : ℕ). page_stepped st.setup.n (found_view st) x y q page) k a
                ∙ ap (λ (x : List ℕ). page_stepped st.setup.n (found_view st) s.health (shown_view s.state) x page) d
                in
                ap₂ page_called e g ∙ with-accepted _ (step_call image read controller out) out page _ l answered
