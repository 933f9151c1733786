-- The answers of the calls with a page in one chain, from those of the calls without one; a refused call leaves what it was lent.
use Prim.Native.Nat.{ℕ, ◌-◌, ◌*◌, ◌^◌, ◌≤◌, ◌<◌}
use mathlib.Core.Path.{◌≡◌, refl, sym, ap, ◌∙◌, subst}
use mathlib.Core.Bool.{Bool, true, false, cond, not, ◌&&◌, ◌||◌}
use mathlib.Core.Logic.{◌≢◌, ⊎_elim}
use mathlib.Core.List.{List, [], ◌∷◌}
use lib.ListN.{length}
use lib.Dec.{eqb, ltb}
use borrow.Author.Tests.{eq-eqb, eqb-true, ne_eqb, lt-ltb}
use Rattle.words.specs.Word.{word_at}
use Rattle.words.specs.Bits.{full}
use Rattle.words.proofs.Truth.{which, clash, cond-true, cond-false, and-true}
use Rattle.words.specs.Verdict.{verdict, accepted, is_accepted, between, single, and_then}
use Rattle.setup.specs.Setup.{partitionable_in, front_in, setup_of}
use Rattle.setup.specs.Check.{check_setup}
use Rattle.words.specs.Verdict.{Verdict}
use Rattle.words.proofs.VerdictLaws.{Passed, between-of, tests-ok}
use Rattle.rules.specs.Hearing.{reading_of, causes_of}
use Rattle.views.specs.ViewWord.{read_words}
use Rattle.image.specs.Layout.{image_length}
use Rattle.image.specs.Check.{left_in, check_image}
use Rattle.presence.specs.Opening.{fresh, open_of}
use Rattle.presence.specs.Step.{judgement_for, found_view, after_round, accepted_step, step_of}
use Rattle.presence.specs.Shown.{shown_view}
use Rattle.presence.specs.Image.{state_of}
use Rattle.calls.specs.Calls.{Called, refused_call, wrote, open_call, step_call}
use Rattle.calls.specs.Refusals.{size_of, has_room, has_words, seen_in, answering}
use Rattle.rules.specs.declared.Reading.{Reading}
use Rattle.presence.specs.declared.State.{State}
use Rattle.presence.specs.Step.{Stepped}
use Rattle.calls.proofs.CallAnswers.{open-passed, open-keeps, step-passed, step_keeps, change-keeps, save-keeps}
use Rattle.presence.proofs.StateStepLaws.{step-accepted as step-of-struct, open-fresh}
use Rattle.calls.proofs.Refusals.{refusals as without-page, both-accept, two-answers, open-verdict as open-without, step-verdict as step-without}
use Rattle.page.specs.Page.{is_page, starts_word, page_opened, page_stepped, page_written}
use Rattle.page.specs.Host.{tell, written, wrote_page, write_call}
use Rattle.page.specs.Calls.{PageCalled, page_called, with_page, page_open_call, page_step_call}
use Rattle.page.specs.Refusals.{page_open_verdict, page_step_verdict, page_answering, Refused, opening, step, change, saving, page-opening, page-step, page-of-opening, page-of-step, write, PageRefusals}
use Rattle.page.proofs.PageCallLaws.{fresh-shown}
use Rattle.page.proofs.WithPageLaws.{with-zero}

module _ (health : ℕ) (st : State) (out page next : List ℕ) where
  -- the call with a page, by whether the page has its length
  with-by : Bool → Bool → Called → PageCalled
  with-by passed long c = cond (passed && not long) (page_called (refused_call 9 0 out) page) (page_called c (cond (eqb c.answer.number 0) next page))

  -- a call that was refused before it came to the page
  before : (v : Verdict) (passed long : Bool) → is_accepted v ≡ false → passed ≡ false
      → with-by passed long (answering v health st out) ≡ page_answering v health st out next page
  unfolding with-by answering page_answering refused_call
  before v true long e f = clash true refl f
  before v false long e f =
      ap (λ (c : Called). page_called c (cond (eqb c.answer.number 0) next page)) (cond-false (wrote health st) _ e)
      ∙ ap (page_called (refused_call v.number v.index out)) (cond-false next page e)
      ∙ sym (cond-false (page_called (wrote health st) next) _ e)

  -- by the tests of the setup, of the own number, of the room and of the page
  open-chain : (v : Verdict) (a b c d : Bool) → is_accepted v ≡ a
      → let w = cond a (cond b (cond c accepted (verdict 9 0)) (verdict 7 0)) v in
      with-by (eqb (answering w health st out).answer.number 0) d (answering w health st out)
      ≡ page_answering (cond a (cond b (cond (c && d) accepted (verdict 9 0)) (verdict 7 0)) v) health st out next page
  unfolding with-by answering page_answering wrote refused_call
  open-chain v true true true true e = refl
  open-chain v true true true false e = refl
  open-chain v true true false d e = refl
  open-chain v true false c d e = refl
  open-chain v false b c d e =
      before v (eqb (answering v health st out).answer.number 0) d e
      (ap (λ (x : Called). eqb x.answer.number 0) (cond-false (wrote health st) _ e) ∙ e)

  -- by the tests of the image, of the room, of the read, of the page and of the controller bits
  step-chain : (v : Verdict) (a b c d k : Bool) → is_accepted v ≡ a
      → let w = cond a (cond (b && c) (cond k accepted (verdict 10 0)) (verdict 9 0)) v in
      with-by a d (answering w health st out)
      ≡ page_answering (cond a (cond (b && c && d) (cond k accepted (verdict 10 0)) (verdict 9 0)) v) health st out next page
  unfolding with-by answering page_answering wrote refused_call
  step-chain v true true true true true e = refl
  step-chain v true true true true false e = refl
  step-chain v true true true false true e = refl
  step-chain v true true true false false e = refl
  step-chain v true true false true k e = refl
  step-chain v true true false false k e = refl
  step-chain v true false c true k e = refl
  step-chain v true false c false k e = refl
  step-chain v false b c d k e = before v false d e refl

-- of an accepted call the next page may be taken by an equal
next-by : (v : Verdict) (health : ℕ) (st : State) (out next next' page : List ℕ) → (v.number ≡ 0 → next ≡ next')
    → page_answering v health st out next page ≡ page_answering v health st out next' page
unfolding page_answering
next-by v health st out next next' page h =
    ⊎_elim
    (λ (t : is_accepted v ≡ true).
    ap (λ (x : List ℕ). cond (is_accepted v) (page_called (wrote health st) x) (page_called (refused_call v.number v.index out) page))
    (h (eqb-true v.number 0 t)))
    (λ (f : is_accepted v ≡ false). cond-false _ _ f ∙ sym (cond-false _ _ f)) (which (is_accepted v))

-- what is answered is the number of the verdict
number_is : (v : Verdict) (health : ℕ) (st : State) (out next page : List ℕ) → (page_answering v health st out next page).call.answer.number ≡ v.number
unfolding page_answering wrote refused_call
number_is v health st out next page =
    ⊎_elim
    (λ (t : is_accepted v ≡ true). ap (λ (c : PageCalled). c.call.answer.number) (cond-true _ _ t) ∙ sym (eqb-true v.number 0 t))
    (λ (f : is_accepted v ≡ false). ap (λ (c : PageCalled). c.call.answer.number) (cond-false _ _ f)) (which (is_accepted v))

-- ---- opening

module _ (setup : List ℕ) (own : ℕ) (out page : List ℕ) where
  abbrev opened : State
  opened = (open_of (setup_of setup) own).state

  open-verdict : page_open_verdict setup own out page
      ≡ cond (is_accepted (check_setup setup))
      (cond (between 1 (size_of setup) own) (cond (has_room setup 0 out && is_page page) accepted (verdict 9 0)) (verdict 7 0)) (check_setup setup)
  unfolding page_open_verdict and_then
  open-verdict =
      ap (λ (v : Verdict). cond (is_accepted (check_setup setup)) v (check_setup setup))
      (two-answers 7 9 refl (between 1 (size_of setup) own) (has_room setup 0 out && is_page page))

  opens : page_open_call setup own out page
      ≡ page_answering (page_open_verdict setup own out page) 0 (fresh (setup_of setup) own) out (page_opened opened.setup.n (shown_view opened)) page
  unfolding page_open_call with_page with-by
  opens =
      ap
      (λ (c : Called).
      with-by 0 (fresh (setup_of setup) own) out page (page_opened opened.setup.n (shown_view opened)) (eqb c.answer.number 0) (is_page page) c)
      (without-page.opening setup own out ∙ ap (λ (v : Verdict). answering v 0 (fresh (setup_of setup) own) out) (open-without setup own out))
      ∙ open-chain 0 (fresh (setup_of setup) own) out page _ (check_setup setup) (is_accepted (check_setup setup)) (between 1 (size_of setup) own)
      (has_room setup 0 out) (is_page page) refl
      ∙ ap (λ (v : Verdict). page_answering v 0 (fresh (setup_of setup) own) out (page_opened opened.setup.n (shown_view opened)) page) (sym open-verdict)

  -- the module that is opened is fresh
  opened-fresh : (page_open_verdict setup own out page).number ≡ 0 → opened ≡ fresh (setup_of setup) own
  unfolding page_open_call
  opened-fresh z =
      let c : (page_open_call setup own out page).call.answer.number ≡ 0 =
      ap (λ (x : PageCalled). x.call.answer.number) opens ∙ number_is (page_open_verdict setup own out page) 0 _ out _ page ∙ z
      in
      let o = with-zero _ (open_call setup own out) out page (page_opened opened.setup.n (shown_view opened)) c in
      open-fresh (setup_of setup) own (open-passed setup own out o.1).1

  opening-is : page_open_call setup own out page
      ≡ page_answering (page_open_verdict setup own out page) 0 (fresh (setup_of setup) own) out (page_opened (size_of setup) (full (size_of setup))) page
  unfolding fresh setup_of
  opening-is =
      opens
      ∙ next-by (page_open_verdict setup own out page) 0 _ out _ _ page (λ z. ap (λ (s : State). page_opened s.setup.n (shown_view s)) (opened-fresh z) ∙ ap (page_opened (size_of setup)) (fresh-shown (setup_of setup) own))

-- ---- step

module _ (image read : List ℕ) (controller : ℕ) (out page : List ℕ) where
  abbrev st : State
  st = state_of image

  abbrev this : Reading
  this = reading_of (size_of image) read controller

  abbrev seen : List ℕ
  seen = seen_in image read controller

  abbrev next : Stepped → List ℕ
  next t = page_stepped st.setup.n (found_view st) t.health (shown_view t.state) t.causes page

  abbrev v : Verdict
  v = page_step_verdict image read controller out page

  step-verdict : v
      ≡ cond (is_accepted (check_image image))
      (cond (has_room image (left_in image - 1) out && has_words image read && is_page page) (cond (ltb controller (2 ^ size_of image)) accepted (verdict 10 0))
      (verdict 9 0)) (check_image image)
  unfolding page_step_verdict and_then
  step-verdict =
      ap (λ (v : Verdict). cond (is_accepted (check_image image)) v (check_image image))
      (two-answers 9 10 refl (has_room image (left_in image - 1) out && has_words image read && is_page page) (ltb controller (2 ^ size_of image)))

  steps : page_step_call image read controller out page
      ≡ page_answering v (judgement_for st this).health (after_round st this seen) out (next (step_of st read controller)) page
  unfolding page_step_call with_page with-by
  steps =
      ap
      (λ (c : Called).
      with-by (judgement_for st this).health (after_round st this seen) out page (next (step_of st read controller)) (is_accepted (check_image image)) (is_page page) c)
      (without-page.step image read controller out
      ∙ ap (λ (v : Verdict). answering v (judgement_for st this).health (after_round st this seen) out) (step-without image read controller out))
      ∙ step-chain (judgement_for st this).health (after_round st this seen) out page _ (check_image image) (is_accepted (check_image image))
      (has_room image (left_in image - 1) out) (has_words image read) (is_page page) (ltb controller (2 ^ size_of image)) refl
      ∙ ap (λ (v : Verdict). page_answering v (judgement_for st this).health (after_round st this seen) out (next (step_of st read controller)) page) (sym step-verdict)

  -- the step is an accepted one of the struct
  stepped-so : v.number ≡ 0 → step_of st read controller ≡ accepted_step st this seen (causes_of (size_of image) read controller)
  unfolding page_step_call state_of setup_of
  stepped-so z =
      let c : (page_step_call image read controller out page).call.answer.number ≡ 0 =
      ap (λ (x : PageCalled). x.call.answer.number) steps ∙ number_is v (judgement_for st this).health (after_round st this seen) out _ page ∙ z
      in
      let s = with-zero _ (step_call image read controller out) out page (next (step_of st read controller)) c in
      (step-of-struct st read controller (step-passed image read controller out s.1).1).1

  step_is : page_step_call image read controller out page
      ≡ page_answering v (judgement_for st this).health (after_round st this seen) out
      (page_stepped (size_of image) (found_view st) (judgement_for st this).health (shown_view (after_round st this seen))
      (causes_of (size_of image) read controller) page) page
  unfolding accepted_step state_of setup_of
  step_is =
      steps ∙ next-by v (judgement_for st this).health (after_round st this seen) out _ _ page (λ z. ap next (stepped-so z))

-- ---- accepted calls

pub open-accepted : (setup : List ℕ) (own : ℕ) (out page : List ℕ) → (check_setup setup).number ≡ 0 → 1 ≤ own → own ≤ size_of setup
    → length out ≡ image_length (front_in (word_at setup)) (size_of setup) 0 (partitionable_in (word_at setup 0)) → length page ≡ 64 → (page_open_call setup own out page).call.answer.number ≡ 0
unfolding page_open_verdict Passed
open-accepted setup own out page z h l room long =
    let e : page_open_verdict setup own out page ≡ accepted =
    both-accept (check_setup setup) _ z
    (tests-ok (single (between 1 (size_of setup) own) 7 0 ∷ single (has_room setup 0 out && is_page page) 9 0 ∷ [])
    (λ _ _. between-of 1 (size_of setup) own h l, (λ _ _. and-true (has_room setup 0 out) _ (eq-eqb _ _ room) (eq-eqb (length page) 64 long), tt)))
    in
    ap (λ (c : PageCalled). c.call.answer.number) (opening-is setup own out page) ∙ number_is (page_open_verdict setup own out page) 0 _ out _ page
    ∙ ap (λ (v : Verdict). v.number) e

pub step-accepted : (image read : List ℕ) (controller : ℕ) (out page : List ℕ) → (check_image image).number ≡ 0
    → length out ≡ image_length (front_in (word_at image)) (size_of image) (left_in image - 1) (partitionable_in (word_at image 0))
    → length read ≡ read_words (partitionable_in (word_at image 0)) (size_of image) * 4 → controller < 2 ^ size_of image → length page ≡ 64
    → (page_step_call image read controller out page).call.answer.number ≡ 0
unfolding page_step_verdict Passed
step-accepted image read controller out page z room whole bits long =
    let e : page_step_verdict image read controller out page ≡ accepted =
    both-accept (check_image image) _ z
    (tests-ok
    (single (has_room image (left_in image - 1) out && has_words image read && is_page page) 9 0 ∷ single (ltb controller (2 ^ size_of image)) 10 0 ∷ []) (
      λ _ _.
          and-true (has_room image (left_in image - 1) out && has_words image read) _
          (and-true (has_room image (left_in image - 1) out) _ (eq-eqb _ _ room) (eq-eqb _ _ whole)) (eq-eqb (length page) 64 long),
      (λ _ _. lt-ltb controller _ bits, tt),
    ))
    in
    ap (λ (c : PageCalled). c.call.answer.number) (step_is image read controller out page) ∙ number_is (page_step_verdict image read controller out page) _ _ out _ page
    ∙ ap (λ (v : Verdict). v.number) e

-- ---- a refused call leaves what it was lent

-- the output of a call with a page
out-kept : (v : Verdict) (health : ℕ) (st : State) (out next page : List ℕ) → (page_answering v health st out next page).call.answer.number ≢ 0
    → (page_answering v health st out next page).call.out ≡ out
unfolding page_answering refused_call
out-kept v health st out next page f =
    ap (λ (c : PageCalled). c.call.out)
    (cond-false _ _ (ne_eqb v.number 0 (λ z. f (number_is v health st out next page ∙ z))))

-- its page
page-kept : (v : Verdict) (health : ℕ) (st : State) (out next page : List ℕ) → (page_answering v health st out next page).call.answer.number ≢ 0
    → (page_answering v health st out next page).page ≡ page
unfolding page_answering
page-kept v health st out next page f =
    ap (λ (c : PageCalled). c.page) (cond-false _ _ (ne_eqb v.number 0 (λ z. f (number_is v health st out next page ∙ z))))

-- the same of a call that comes to such an answer
kept_by_lem : (P : PageCalled → Type 0) {c a : PageCalled} → c ≡ a → (a.call.answer.number ≢ 0 → P a) → c.call.answer.number ≢ 0 → P c
kept_by_lem P e h f = subst P (sym e) (h (subst (λ (x : PageCalled). x.call.answer.number ≢ 0) e f))

write_kept : (page : List ℕ) (offset value : ℕ) → (write_call page offset value).answer.number ≢ 0 → (write_call page offset value).page ≡ page
unfolding write_call wrote_page
write_kept page offset value f = go (is_page page) (starts_word offset) (eqb offset 8 || eqb offset 12) f
  where
    go : (a b c : Bool)
        → (cond a (cond b (cond c (wrote_page (page_written offset value page)) (written (tell 18 0) page)) (written (tell 17 0) page)) (written (tell 9 0) page)
        ).answer.number ≢ 0
        → (cond a (cond b (cond c (wrote_page (page_written offset value page)) (written (tell 18 0) page)) (written (tell 17 0) page)) (written (tell 9 0) page)
        ).page ≡ page
    go true true true f = absurd (f refl)
    go true true false f = refl
    go true false c f = refl
    go false b c f = refl

unaltered : (before after : List ℕ) → Refused before after → after ≡ before
unaltered before after (opening setup own f) = open-keeps setup own before f
unaltered before after (step image read controller f) = step_keeps image read controller before f
unaltered before after (change image new lead f) = change-keeps image new lead before f
unaltered before after (saving image f) = save-keeps image before f
unaltered before after (page-opening setup own page f) =
    kept_by_lem (λ (c : PageCalled). c.call.out ≡ before) (opening-is setup own before page) (out-kept _ _ _ before _ page) f
unaltered before after (page-step image read controller page f) =
    kept_by_lem (λ (c : PageCalled). c.call.out ≡ before) (step_is image read controller before page) (out-kept _ _ _ before _ page) f
unaltered before after (page-of-opening setup own out f) =
    kept_by_lem (λ (c : PageCalled). c.page ≡ before) (opening-is setup own out before) (page-kept _ _ _ out _ before) f
unaltered before after (page-of-step image read controller out f) =
    kept_by_lem (λ (c : PageCalled). c.page ≡ before) (step_is image read controller out before) (page-kept _ _ _ out _ before) f
unaltered before after (write offset value f) = write_kept before offset value f

pub refusals : PageRefusals
refusals = record { opening = opening-is; step = step_is; unaltered = unaltered }
