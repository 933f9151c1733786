-- The answers of the calls in one chain: what the bytes' check has passed the struct's check passes too.
use Prim.Native.Nat.{ℕ, ◌+◌, ◌-◌, ◌*◌, ◌^◌, ◌≤◌, ◌<◌}
use mathlib.Core.Path.{◌≡◌, refl, sym, ap, ap₂, ◌∙◌}
use mathlib.Core.Bool.{Bool, true, false, cond, not, ◌&&◌}
use mathlib.Core.Logic.{⊎_elim}
use mathlib.Core.List.{List, [], ◌∷◌, ◌++◌}
use lib.ListN.{length}
use lib.Dec.{eqb, ltb}
use borrow.Author.Tests.{eq-eqb, eqb-true, lt-ltb}
use Rattle.words.specs.Word.{word_at}
use Rattle.words.specs.Count.{lowest}
use Rattle.words.specs.Verdict.{verdict, accepted, is_accepted, between, Test, single, and_then, outcome, then_tests, first_refusal}
use Rattle.words.specs.Verdict.{Verdict}
use Rattle.words.proofs.Truth.{which, cond-true, cond-false, and_l, and_r, and-true, cond_both}
use Rattle.words.proofs.VerdictLaws.{Passed, between_is, between-of, and-then-next, single-refused, tests-ok}
use Rattle.setup.specs.Layout.{front_words}
use Rattle.setup.specs.Setup.{partitionable_in, fades_in, front_in, front_of, setup_of}
use Rattle.setup.specs.Check.{head_tests, limit_tests, module_tests, word_tests, check_head, check_words, check_setup, setup_verdict}
use Rattle.setup.specs.declared.Setup.{Setup}
use Rattle.setup.proofs.SetupLaws.{SetupFits, fits-verdict as setup-accepted}
use Rattle.setup.proofs.SetupRoundTrip.{read_fits}
use Rattle.rules.specs.Hearing.{reading_of, causes_of}
use Rattle.rules.specs.declared.Reading.{Reading}
use Rattle.changes.specs.Pending.{most_lead, nothing, pending_of}
use Rattle.changes.specs.Frame.{same_frame, may_follow, frame_verdict}
use Rattle.views.specs.ViewWord.{read_words}
use Rattle.views.specs.Section.{view_tests}
use Rattle.image.specs.Layout.{image_length}
use Rattle.image.specs.Check.{left_in, image_length_in, tail_tests, image_tests, check_image}
use Rattle.presence.specs.Valid.{state_verdict}
use Rattle.presence.specs.Change.{new_verdict, change_verdict, with_pending, change_of}
use Rattle.presence.specs.Opening.{fresh, blank, check_opening, open_of}
use Rattle.presence.specs.Step.{read_length, seen_by, judgement_for, after_round, refused_step, accepted_step, read_step, step_of}
use Rattle.presence.specs.Image.{state_of, room_for, room_after}
use Rattle.presence.specs.declared.State.{State}
use Rattle.presence.specs.Opening.{Opened}
use Rattle.presence.specs.Step.{Stepped}
use Rattle.presence.specs.Change.{Changed}
use Rattle.presence.proofs.ValidLaws.{StateFits, valid-fits, fits-verdict}
use Rattle.presence.proofs.StateStepLaws.{open-accepts}
use Rattle.presence.proofs.ImageState.{load-valid}
use Rattle.calls.specs.Calls.{Called, refused_call, wrote, check_call, open_call, step_call, change_call, save_call, outgoing_call, outgoing_view_call, cause_call}
use Rattle.calls.specs.Refusals.{size_of, has_room, has_words, seen_in, open_verdict, step_verdict, changing_verdict, saving_verdict, answering, one_of, Refusals}
use Rattle.calls.specs.declared.CauseAnswer.{CauseAnswer}
use Rattle.calls.proofs.ModuleCallLaws.{read-sized, left_is}

-- ---- what a call does is what its verdict says

-- where a test passes, what it leads to may be taken by an equal
cond-then : {A : Type 0} (a : Bool) (x y z : A) → (a ≡ true → x ≡ y) → cond a x z ≡ cond a y z
cond-then true x y z h = h refl
cond-then false x y z h = refl

-- the answers of one test, and of two
one_answer : (k : ℕ) (b : Bool) → first_refusal (single b k 0 ∷ []) ≡ cond b accepted (verdict k 0)
unfolding then_tests outcome and_then lowest
one_answer k true = refl
one_answer k false = refl

pub two-answers : (k m : ℕ) → eqb k 0 ≡ false → (b c : Bool) → first_refusal (single b k 0 ∷ single c m 0 ∷ []) ≡ cond b (cond c accepted (verdict m 0)) (verdict k 0)
unfolding then_tests outcome and_then lowest
two-answers k m h true true = refl
two-answers k m h true false = refl
two-answers k m h false c = rw h

-- and of three
three-answers : (k l m : ℕ) → eqb k 0 ≡ false → eqb l 0 ≡ false → (a b c : Bool)
    → first_refusal (single a k 0 ∷ single b l 0 ∷ single c m 0 ∷ []) ≡ cond a (cond b (cond c accepted (verdict m 0)) (verdict l 0)) (verdict k 0)
unfolding then_tests outcome and_then lowest
three-answers k l m h i true true true = refl
three-answers k l m h i true true false = refl
three-answers k l m h i true false c = rw i
three-answers k l m h i false b c = rw (h, h)

answered : (v : Verdict) (health : ℕ) (st : State) (out : List ℕ) → (answering v health st out).answer.number ≡ v.number
unfolding answering wrote refused_call
answered v health st out =
    ⊎_elim (λ (t : is_accepted v ≡ true). by_number t ∙ sym (eqb-true v.number 0 t)) (λ (f : is_accepted v ≡ false). by-refusal f) (which (is_accepted v))
  where
    by_number : is_accepted v ≡ true → (answering v health st out).answer.number ≡ 0
    by_number t = ap (λ (c : Called). c.answer.number) (cond-true (wrote health st) _ t)

    by-refusal : is_accepted v ≡ false → (answering v health st out).answer.number ≡ v.number
    by-refusal f = ap (λ (c : Called). c.answer.number) (cond-false (wrote health st) _ f)

-- the room for the state that is read, by the bytes, and that after a step
room_by : (image out : List ℕ) → room_for (state_of image) out ≡ has_room image (left_in image) out
unfolding room_for state_of
room_by image out =
    ap (λ (left : ℕ). eqb (length out) (image_length (front_of (setup_of image)) (setup_of image).n left (setup_of image).partitionable)) (left_is image)
    ∙ ap (eqb (length out)) (sym (read-sized image (left_in image)))

after-by : (image out : List ℕ) → room_after (state_of image) out ≡ has_room image (left_in image - 1) out
unfolding room_after state_of
after-by image out =
    ap (λ (left : ℕ). eqb (length out) (image_length (front_of (setup_of image)) (setup_of image).n (left - 1) (setup_of image).partitionable)) (left_is image)
    ∙ ap (eqb (length out)) (sym (read-sized image (left_in image - 1)))

-- ---- opening

other-number : (s : Setup) (own : ℕ) → SetupFits s → between 1 s.n own ≡ false → open_of s own ≡ record { number = 7; index = 0; state = blank }
unfolding open_of check_opening
other-number s own f e =
    let v : check_opening s own ≡ verdict 7 0 =
    and-then-next (setup_verdict s) _ (ap (λ (v : Verdict). v.number) (setup-accepted s f)) ∙ single-refused (between 1 s.n own) 7 0 e
    in
    rw v

-- of a setup within the limits only the own number is left to test
opened-by : (s : Setup) (own : ℕ) → SetupFits s
    → open_of s own ≡ cond (between 1 s.n own) (record { number = 0; index = 0; state = fresh s own }) (record { number = 7; index = 0; state = blank })
opened-by s own f =
    ⊎_elim
    (λ (t : between 1 s.n own ≡ true).
    let (h, l) = between_is 1 s.n own t in
    open-accepts s own f h l ∙ sym (cond-true _ _ t))
    (λ (e : between 1 s.n own ≡ false). other-number s own f e ∙ sym (cond-false _ _ e))
    (which (between 1 s.n own))

module _ (setup : List ℕ) (own : ℕ) (out : List ℕ) where
  abbrev s : Setup
  s = setup_of setup

  -- by the tests of the setup, of the own number and of the room
  open-chain : (v : Verdict) (a b c : Bool) → is_accepted v ≡ a
      → cond a (cond b (cond c (wrote 0 (fresh s own)) (refused_call 9 0 out)) (refused_call 7 0 out)) (refused_call v.number v.index out)
      ≡ answering (cond a (cond b (cond c accepted (verdict 9 0)) (verdict 7 0)) v) 0 (fresh s own) out
  unfolding answering
  open-chain v true true true e = refl
  open-chain v true true false e = refl
  open-chain v true false c e = refl
  open-chain v false b c e = sym (cond-false _ _ e)

  -- what an opening makes of the struct
  writes : Opened → Called
  writes o =
      cond (eqb o.number 0) (cond (room_for o.state out) (wrote 0 o.state) (refused_call 9 0 out)) (refused_call o.number o.index out)

  fresh-room : room_for (fresh s own) out ≡ has_room setup 0 out
  unfolding room_for fresh nothing
  fresh-room = ap (eqb (length out)) (sym (read-sized setup 0))

  writes-by : (b : Bool)
      → writes (cond b (record { number = 0; index = 0; state = fresh s own }) (record { number = 7; index = 0; state = blank }))
      ≡ cond b (cond (has_room setup 0 out) (wrote 0 (fresh s own)) (refused_call 9 0 out)) (refused_call 7 0 out)
  unfolding writes
  writes-by true = ap (λ (b : Bool). cond b (wrote 0 (fresh s own)) (refused_call 9 0 out)) fresh-room
  writes-by false = refl

  -- the verdict by these tests
  pub open-verdict : open_verdict setup own out
      ≡ cond (is_accepted (check_setup setup)) (cond (between 1 (size_of setup) own) (cond (has_room setup 0 out) accepted (verdict 9 0)) (verdict 7 0))
      (check_setup setup)
  unfolding open_verdict and_then
  open-verdict =
      ap (λ (v : Verdict). cond (is_accepted (check_setup setup)) v (check_setup setup))
      (two-answers 7 9 refl (between 1 (size_of setup) own) (has_room setup 0 out))

  opening : open_call setup own out ≡ answering (open_verdict setup own out) 0 (fresh s own) out
  unfolding open_call writes setup_of
  opening =
      cond-then (is_accepted (check_setup setup)) _ _ _
      (λ t. ap writes (opened-by s own (read_fits setup (eqb-true (check_setup setup).number 0 t))) ∙ writes-by (between 1 (size_of setup) own))
      ∙ open-chain (check_setup setup) (is_accepted (check_setup setup)) (between 1 (size_of setup) own) (has_room setup 0 out) refl
      ∙ ap (λ (v : Verdict). answering v 0 (fresh s own) out) (sym open-verdict)

-- ---- step

-- of a state within the limits only the read and the controller bits are left to test
stepped_by_lem : (st : State) (read : List ℕ) (controller : ℕ) → StateFits st
    → step_of st read controller
    ≡ cond (eqb (length read) (read_length st))
    (cond (ltb controller (2 ^ st.setup.n))
    (accepted_step st (reading_of st.setup.n read controller) (seen_by st read controller) (causes_of st.setup.n read controller))
    (refused_step st 10 0))
    (refused_step st 9 0)
unfolding step_of read_step
stepped_by_lem st read controller f = cond-true _ _ (ap is_accepted (fits-verdict st f))

module _ (image read : List ℕ) (controller : ℕ) (out : List ℕ) where
  abbrev st : State
  st = state_of image

  abbrev this : Reading
  this = reading_of (size_of image) read controller

  abbrev seen : List ℕ
  seen = seen_in image read controller

  abbrev done : Called
  done = wrote (judgement_for st this).health (after_round st this seen)

  -- by the tests of the image, of the room, of the read and of the controller bits
  step-chain : (v : Verdict) (a b c d : Bool) → is_accepted v ≡ a
      → cond a (cond b (cond c (cond d done (refused_call 10 0 out)) (refused_call 9 0 out)) (refused_call 9 0 out)) (refused_call v.number v.index out)
      ≡ answering (cond a (cond (b && c) (cond d accepted (verdict 10 0)) (verdict 9 0)) v) (judgement_for st this).health (after_round st this seen) out
  unfolding answering
  step-chain v true true true true e = refl
  step-chain v true true true false e = refl
  step-chain v true true false d e = refl
  step-chain v true false c d e = refl
  step-chain v false b c d e = sym (cond-false _ _ e)

  -- what a step makes of the struct
  tells : Stepped → Called
  tells t = cond (eqb t.number 0) (wrote t.health t.state) (refused_call t.number t.index out)

  tells-by : (causes : List ℕ) (c d : Bool)
      → tells (cond c (cond d (accepted_step st this seen causes) (refused_step st 10 0)) (refused_step st 9 0))
      ≡ cond c (cond d done (refused_call 10 0 out)) (refused_call 9 0 out)
  unfolding tells accepted_step refused_step
  tells-by causes true true = refl
  tells-by causes true false = refl
  tells-by causes false d = refl

  -- the verdict by these tests
  pub step-verdict : step_verdict image read controller out
      ≡ cond (is_accepted (check_image image))
      (cond (has_room image (left_in image - 1) out && has_words image read) (cond (ltb controller (2 ^ size_of image)) accepted (verdict 10 0)) (verdict 9 0))
      (check_image image)
  unfolding step_verdict and_then
  step-verdict =
      ap (λ (v : Verdict). cond (is_accepted (check_image image)) v (check_image image))
      (two-answers 9 10 refl (has_room image (left_in image - 1) out && has_words image read) (ltb controller (2 ^ size_of image)))

  step : step_call image read controller out ≡ answering (step_verdict image read controller out) (judgement_for st this).health (after_round st this seen) out
  unfolding step_call tells state_of setup_of
  step =
      cond-then (is_accepted (check_image image)) _ _ _
      (λ t.
      let f = valid-fits st (load-valid image (eqb-true (check_image image).number 0 t)) in
      ap₂ (λ (b : Bool) (c : Called). cond b c (refused_call 9 0 out)) (after-by image out)
      (ap tells (stepped_by_lem st read controller f) ∙ tells-by _ (has_words image read) (ltb controller (2 ^ size_of image))))
      ∙ step-chain (check_image image) (is_accepted (check_image image)) (has_room image (left_in image - 1) out) (has_words image read)
      (ltb controller (2 ^ size_of image)) refl
      ∙ ap (λ (v : Verdict). answering v (judgement_for st this).health (after_round st this seen) out) (sym step-verdict)

-- ---- change

module _ (image new : List ℕ) (lead : ℕ) (out : List ℕ) where
  abbrev held : State
  held = state_of image

  abbrev asked : Setup
  asked = setup_of new

  -- the state with the change pending
  abbrev changed : State
  changed = with_pending held (pending_of asked lead)

  -- of a state and a new setup within the limits only 23 and 24 are left to test
  change-verdict : StateFits held → SetupFits asked → change_verdict held asked lead
      ≡ cond (same_frame held.setup asked) (cond (may_follow held.pending lead) accepted (verdict 24 0)) (verdict 23 0)
  unfolding change_verdict new_verdict frame_verdict
  change-verdict f g =
      and-then-next (state_verdict held) _ (ap (λ (v : Verdict). v.number) (fits-verdict held f))
      ∙ and-then-next (setup_verdict asked) _ (ap (λ (v : Verdict). v.number) (setup-accepted asked g))
      ∙ two-answers 23 24 refl (same_frame held.setup asked) (may_follow held.pending lead)

  -- what a change answers by its verdict
  by-verdict : Verdict → Changed
  by-verdict v = record { number = v.number; index = v.index; state = cond (is_accepted v) changed held }

  -- what a change makes of the struct
  puts : Changed → Called
  puts c =
      cond (eqb c.number 0) (cond (room_for c.state out) (wrote 0 c.state) (refused_call 9 0 out)) (refused_call c.number c.index out)

  changed-room : room_for changed out ≡ has_room image lead out
  unfolding room_for state_of pending_of
  changed-room = ap (eqb (length out)) (sym (read-sized image lead))

  puts-by : (a b : Bool) → puts (by-verdict (cond a (cond b accepted (verdict 24 0)) (verdict 23 0)))
      ≡ cond a (cond b (cond (has_room image lead out) (wrote 0 changed) (refused_call 9 0 out)) (refused_call 24 0 out)) (refused_call 23 0 out)
  unfolding puts by-verdict
  puts-by true true = ap (λ (b : Bool). cond b (wrote 0 changed) (refused_call 9 0 out)) changed-room
  puts-by true false = refl
  puts-by false b = refl

  -- by the tests of the image, of the new setup, of 23, of 24 and of the room
  change-chain : (v w : Verdict) (a b c d e : Bool) → is_accepted v ≡ a → is_accepted w ≡ b
      → cond a (cond b (cond c (cond d (cond e (wrote 0 changed) (refused_call 9 0 out)) (refused_call 24 0 out)) (refused_call 23 0 out)) (refused_call w.number w.index out))
      (refused_call v.number v.index out)
      ≡ answering (cond a (cond b (cond c (cond d (cond e accepted (verdict 9 0)) (verdict 24 0)) (verdict 23 0)) w) v) 0 changed out
  unfolding answering
  change-chain v w true true true true true p q = refl
  change-chain v w true true true true false p q = refl
  change-chain v w true true true false e p q = refl
  change-chain v w true true false d e p q = refl
  change-chain v w true false c d e p q = sym (cond-false _ _ q)
  change-chain v w false b c d e p q = sym (cond-false _ _ p)

  -- the verdict by these tests
  pub changing-verdict : changing_verdict image new lead out
      ≡ cond (is_accepted (check_image image))
      (cond (is_accepted (check_setup new))
      (cond (same_frame (setup_of image) asked)
      (cond (eqb (left_in image) 0 && between 1 most_lead lead) (cond (has_room image lead out) accepted (verdict 9 0)) (verdict 24 0)) (verdict 23 0))
      (check_setup new)) (check_image image)
  unfolding changing_verdict and_then
  changing-verdict =
      ap (λ (v : Verdict). cond (is_accepted (check_image image)) (cond (is_accepted (check_setup new)) v (check_setup new)) (check_image image))
      (three-answers 23 24 9 refl refl (same_frame (setup_of image) asked) (eqb (left_in image) 0 && between 1 most_lead lead) (has_room image lead out))

  may-follow : may_follow held.pending lead ≡ eqb (left_in image) 0 && between 1 most_lead lead
  unfolding may_follow
  may-follow = ap (λ (left : ℕ). eqb left 0 && between 1 most_lead lead) (left_is image)

  frame_is : same_frame held.setup asked ≡ same_frame (setup_of image) asked
  unfolding state_of
  frame_is = refl

  -- what is put where image and new setup are accepted
  put_is : is_accepted (check_image image) ≡ true → is_accepted (check_setup new) ≡ true → puts (change_of held asked lead)
      ≡ cond (same_frame (setup_of image) asked)
      (cond (eqb (left_in image) 0 && between 1 most_lead lead) (cond (has_room image lead out) (wrote 0 changed) (refused_call 9 0 out)) (refused_call 24 0 out))
      (refused_call 23 0 out)
  unfolding change_of by-verdict
  put_is t u =
      let f = valid-fits held (load-valid image (eqb-true (check_image image).number 0 t)) in
      let g = read_fits new (eqb-true (check_setup new).number 0 u) in
      ap (λ (v : Verdict). puts (by-verdict v)) (change-verdict f g)
      ∙ puts-by (same_frame held.setup asked) (may_follow held.pending lead)
      ∙ ap₂ (λ (a b : Bool). cond a (cond b (cond (has_room image lead out) (wrote 0 changed) (refused_call 9 0 out)) (refused_call 24 0 out)) (refused_call 23 0 out))
      frame_is may-follow

  pub changing : change_call image new lead out ≡ answering (changing_verdict image new lead out) 0 changed out
  unfolding change_call puts
  changing =
      cond-then (is_accepted (check_image image)) _ _ _
      (λ t. cond-then (is_accepted (check_setup new)) _ _ _ (λ u. put_is t u))
      ∙ change-chain (check_image image) (check_setup new) (is_accepted (check_image image)) (is_accepted (check_setup new)) (same_frame (setup_of image) asked)
      (eqb (left_in image) 0 && between 1 most_lead lead) (has_room image lead out) refl refl
      ∙ ap (λ (v : Verdict). answering v 0 changed out) (sym changing-verdict)

-- ---- saving

save-chain : (v : Verdict) (a b : Bool) (st : State) (out : List ℕ) → is_accepted v ≡ a
    → cond a (cond b (wrote 0 st) (refused_call 9 0 out)) (refused_call v.number v.index out)
    ≡ answering (cond a (cond b accepted (verdict 9 0)) v) 0 st out
unfolding answering
save-chain v true true st out e = refl
save-chain v true false st out e = refl
save-chain v false b st out e = sym (cond-false _ _ e)

saving : (image out : List ℕ) → save_call image out ≡ answering (saving_verdict image out) 0 (state_of image) out
unfolding save_call saving_verdict and_then
saving image out =
    ap (λ (b : Bool). cond (is_accepted (check_image image)) (cond b (wrote 0 (state_of image)) (refused_call 9 0 out)) (refused_call (check_image image).number (check_image image).index out))
    (room_by image out)
    ∙ save-chain (check_image image) (is_accepted (check_image image)) (has_room image (left_in image) out) (state_of image) out refl
    ∙ ap (λ (v : Verdict). answering (cond (is_accepted (check_image image)) v (check_image image)) 0 (state_of image) out)
    (sym (one_answer 9 (has_room image (left_in image) out)))

-- ---- accepted calls

-- one check after another, both of which accept
pub both-accept : (v next : Verdict) → v.number ≡ 0 → next ≡ accepted → and_then v next ≡ accepted
both-accept v next z e = and-then-next v next z ∙ e

pub open-accepted : (setup : List ℕ) (own : ℕ) (out : List ℕ) → (check_setup setup).number ≡ 0 → 1 ≤ own → own ≤ size_of setup
    → length out ≡ image_length (front_in (word_at setup)) (size_of setup) 0 (partitionable_in (word_at setup 0)) → (open_call setup own out).answer.number ≡ 0
unfolding open_verdict Passed
open-accepted setup own out z h l room =
    let e : open_verdict setup own out ≡ accepted =
    both-accept (check_setup setup) _ z
    (tests-ok (single (between 1 (size_of setup) own) 7 0 ∷ single (has_room setup 0 out) 9 0 ∷ [])
    (λ _ _. between-of 1 (size_of setup) own h l, (λ _ _. eq-eqb (length out) _ room, tt)))
    in
    ap (λ (c : Called). c.answer.number) (opening setup own out) ∙ answered (open_verdict setup own out) 0 _ out ∙ ap (λ (v : Verdict). v.number) e

pub step-accepted : (image read : List ℕ) (controller : ℕ) (out : List ℕ) → (check_image image).number ≡ 0
    → length out ≡ image_length (front_in (word_at image)) (size_of image) (left_in image - 1) (partitionable_in (word_at image 0))
    → length read ≡ read_words (partitionable_in (word_at image 0)) (size_of image) * 4 → controller < 2 ^ size_of image → (step_call image read controller out).answer.number ≡ 0
unfolding step_verdict Passed
step-accepted image read controller out z room whole bits =
    let e : step_verdict image read controller out ≡ accepted =
    both-accept (check_image image) _ z
    (tests-ok
    (single (has_room image (left_in image - 1) out && has_words image read) 9 0 ∷ single (ltb controller (2 ^ size_of image)) 10 0 ∷ [])
    (λ _ _. and-true (has_room image (left_in image - 1) out) _ (eq-eqb _ _ room) (eq-eqb _ _ whole), (λ _ _. lt-ltb controller _ bits, tt)))
    in
    ap (λ (c : Called). c.answer.number) (step image read controller out) ∙ answered (step_verdict image read controller out) _ _ out
    ∙ ap (λ (v : Verdict). v.number) e

pub save-accepted : (image out : List ℕ) → (check_image image).number ≡ 0 → length out ≡ image_length_in image
    → (save_call image out).answer.number ≡ 0
unfolding saving_verdict Passed
save-accepted image out z room =
    let e : saving_verdict image out ≡ accepted =
    both-accept (check_image image) _ z
    (tests-ok (single (has_room image (left_in image) out) 9 0 ∷ []) (λ _ _. eq-eqb (length out) _ room, tt))
    in
    ap (λ (c : Called). c.answer.number) (saving image out) ∙ answered (saving_verdict image out) 0 (state_of image) out ∙ ap (λ (v : Verdict). v.number) e

-- ---- the numbers: every check of a chain answers one of these, or the next check does

all_among : List ℕ → List Test → Bool
all_among ns [] = true
all_among ns (t ∷ ts) = one_of ns t.number && all_among ns ts

module _ (ns : List ℕ) where
  abbrev Among : ℕ → Type 0
  Among k = one_of ns k ≡ true

  among_then : (v next : Verdict) → Among v.number → Among next.number → Among (and_then v next).number
  unfolding and_then
  among_then v next h k = either (is_accepted v)
    where
      either : (b : Bool) → Among (cond b next v).number
      either true = k
      either false = h

  -- tests in their order: 0, or the number of one of them
  among-outcome : (t : Test) → Among 0 → Among t.number → Among (outcome t).number
  unfolding outcome
  among-outcome t h k = either (eqb (lowest t.count (λ j. not (t.ok j))) 0)
    where
      either : (b : Bool) → Among (cond b accepted (verdict t.number (t.place + lowest t.count (λ j. not (t.ok j)) - 1))).number
      either true = h
      either false = k

  among-tests : (v : Verdict) (ts : List Test) → Among 0 → Among v.number → all_among ns ts ≡ true → Among (then_tests v ts).number
  unfolding then_tests all_among
  among-tests v [] h0 h a = h
  among-tests v (t ∷ ts) h0 h a =
      among-tests (and_then v (outcome t)) ts h0
      (among_then v (outcome t) h (among-outcome t h0 (and_l (one_of ns t.number) _ a))) (and_r (one_of ns t.number) _ a)

  among-all : (ts : List Test) → Among 0 → all_among ns ts ≡ true → Among (first_refusal ts).number
  among-all ts h a = among-tests accepted ts h h a

  among-join : (ts us : List Test) → all_among ns ts ≡ true → all_among ns us ≡ true → all_among ns (ts ++ us) ≡ true
  unfolding all_among
  among-join [] us h k = k
  among-join (t ∷ ts) us h k = and-true (one_of ns t.number) _ (and_l (one_of ns t.number) _ h) (among-join ts us (and_r (one_of ns t.number) _ h) k)

  -- the numbers of the tests of a setup, and of an image, in either form
  record Numbers (s : List ℕ) : Type 0 where
    zero : Among 0
    head : (fits : Bool) → all_among ns (head_tests s fits) ≡ true
    counts : all_among ns (limit_tests false (word_at s)) ≡ true
    fading : all_among ns (limit_tests true (word_at s)) ≡ true
    modules : (front n : ℕ) → all_among ns (module_tests (word_at s) front n 5 ∷ module_tests (word_at s) front n 6 ∷ []) ≡ true

  limit-numbers : (s : List ℕ) → Numbers s → (b : Bool) → all_among ns (limit_tests b (word_at s)) ≡ true
  limit-numbers s h true = h.fading
  limit-numbers s h false = h.counts

  word-numbers : (s : List ℕ) → Numbers s → (n : ℕ) → all_among ns (word_tests s n) ≡ true
  word-numbers s h n =
      let b = fades_in (word_at s) in
      among-join (limit_tests b (word_at s)) (module_tests (word_at s) (front_words b) n 5 ∷ module_tests (word_at s) (front_words b) n 6 ∷ []) (limit-numbers s h b) (h.modules (front_words b) n)

  among-setup : (s : List ℕ) → Numbers s → Among (check_setup s).number
  unfolding check_setup check_head check_words
  among-setup s h = among_then _ _ (among-all (head_tests s _) h.zero (h.head _)) (among-all (word_tests s _) h.zero (word-numbers s h _))

  among-image : (s : List ℕ) → Numbers s → ((b : Bool) (n : ℕ) → all_among ns (tail_tests b (word_at s) n) ≡ true) → Among (check_image s).number
  unfolding check_image check_head
  among-image s h tail =
      among_then _ _ (among-all (head_tests s _) h.zero (h.head _))
      (among-all (image_tests s _) h.zero (among-join (word_tests s _) (tail_tests (fades_in (word_at s)) (word_at s) _) (word-numbers s h _) (tail (fades_in (word_at s)) _)))

-- every test of the views has number 8
view-numbers : (ns : List ℕ) (b : Bool) → one_of ns 8 ≡ true → (w : ℕ → ℕ) (n view at : ℕ) → all_among ns (view_tests b w n view at) ≡ true
unfolding all_among
view-numbers ns true e w n view at = rw e
view-numbers ns false e w n view at = refl

-- the same of what a call answers
numbered : (ns : List ℕ) {c : Called} (v : Verdict) (health : ℕ) (st : State) (out : List ℕ) → c ≡ answering v health st out
    → one_of ns v.number ≡ true → one_of ns c.answer.number ≡ true
numbered ns v health st out e h = ap (λ (c : Called). one_of ns c.answer.number) e ∙ ap (one_of ns) (answered v health st out) ∙ h

setup-numbers : (setup : List ℕ) → one_of (0 ∷ 1 ∷ 2 ∷ 3 ∷ 4 ∷ 5 ∷ 6 ∷ 22 ∷ []) (check_call setup).number ≡ true
unfolding check_call one_of all_among
setup-numbers setup = among-setup (0 ∷ 1 ∷ 2 ∷ 3 ∷ 4 ∷ 5 ∷ 6 ∷ 22 ∷ []) setup (record { zero = refl; head = λ _. refl; counts = refl; fading = refl; modules = λ _ _. refl })

opening-numbers : (setup : List ℕ) (own : ℕ) (out : List ℕ)
    → one_of (0 ∷ 1 ∷ 2 ∷ 3 ∷ 4 ∷ 5 ∷ 6 ∷ 7 ∷ 9 ∷ 22 ∷ []) (open_call setup own out).answer.number ≡ true
unfolding open_verdict one_of all_among
opening-numbers setup own out =
    let ns : List ℕ = 0 ∷ 1 ∷ 2 ∷ 3 ∷ 4 ∷ 5 ∷ 6 ∷ 7 ∷ 9 ∷ 22 ∷ [] in
    numbered ns (open_verdict setup own out) 0 (fresh (setup_of setup) own) out (opening setup own out)
    (among_then ns (check_setup setup) _ (among-setup ns setup (record { zero = refl; head = λ _. refl; counts = refl; fading = refl; modules = λ _ _. refl }))
    (among-all ns (single (between 1 (size_of setup) own) 7 0 ∷ single (has_room setup 0 out) 9 0 ∷ []) refl refl))

step-numbers : (image read : List ℕ) (controller : ℕ) (out : List ℕ)
    → one_of (0 ∷ 1 ∷ 2 ∷ 3 ∷ 4 ∷ 5 ∷ 6 ∷ 7 ∷ 8 ∷ 9 ∷ 10 ∷ 22 ∷ []) (step_call image read controller out).answer.number ≡ true
unfolding step_verdict one_of all_among
step-numbers image read controller out =
    let ns : List ℕ = 0 ∷ 1 ∷ 2 ∷ 3 ∷ 4 ∷ 5 ∷ 6 ∷ 7 ∷ 8 ∷ 9 ∷ 10 ∷ 22 ∷ [] in
    numbered ns (step_verdict image read controller out) _ _ out (step image read controller out)
    (among_then ns (check_image image) _ (among-image ns image (record { zero = refl; head = λ _. refl; counts = refl; fading = refl; modules = λ _ _. refl }) tails)
    (among-all ns (single (has_room image (left_in image - 1) out && has_words image read) 9 0 ∷ single (ltb controller (2 ^ size_of image)) 10 0 ∷ []) refl refl))
  where
    tails : (b : Bool) (n : ℕ) → all_among (0 ∷ 1 ∷ 2 ∷ 3 ∷ 4 ∷ 5 ∷ 6 ∷ 7 ∷ 8 ∷ 9 ∷ 10 ∷ 22 ∷ []) (tail_tests b (word_at image) n) ≡ true
    tails true n = view-numbers (0 ∷ 1 ∷ 2 ∷ 3 ∷ 4 ∷ 5 ∷ 6 ∷ 7 ∷ 8 ∷ 9 ∷ 10 ∷ 22 ∷ []) (partitionable_in (word_at image 0)) refl (word_at image) n _ _
    tails false n = view-numbers (0 ∷ 1 ∷ 2 ∷ 3 ∷ 4 ∷ 5 ∷ 6 ∷ 7 ∷ 8 ∷ 9 ∷ 10 ∷ 22 ∷ []) (partitionable_in (word_at image 0)) refl (word_at image) n _ _

change-numbers : (image new : List ℕ) (lead : ℕ) (out : List ℕ)
    → one_of (0 ∷ 1 ∷ 2 ∷ 3 ∷ 4 ∷ 5 ∷ 6 ∷ 7 ∷ 8 ∷ 9 ∷ 22 ∷ 23 ∷ 24 ∷ []) (change_call image new lead out).answer.number ≡ true
unfolding changing_verdict one_of all_among
change-numbers image new lead out =
    let ns : List ℕ = 0 ∷ 1 ∷ 2 ∷ 3 ∷ 4 ∷ 5 ∷ 6 ∷ 7 ∷ 8 ∷ 9 ∷ 22 ∷ 23 ∷ 24 ∷ [] in
    numbered ns (changing_verdict image new lead out) 0 _ out (changing image new lead out)
    (among_then ns (check_image image) _ (among-image ns image (record { zero = refl; head = λ _. refl; counts = refl; fading = refl; modules = λ _ _. refl }) tails)
    (among_then ns (check_setup new) _ (among-setup ns new (record { zero = refl; head = λ _. refl; counts = refl; fading = refl; modules = λ _ _. refl }))
    (among-all ns
    (single (same_frame (setup_of image) (setup_of new)) 23 0 ∷ single (eqb (left_in image) 0 && between 1 most_lead lead) 24 0 ∷ single (has_room image lead out) 9 0 ∷ [])
    refl refl)))
  where
    tails : (b : Bool) (n : ℕ) → all_among (0 ∷ 1 ∷ 2 ∷ 3 ∷ 4 ∷ 5 ∷ 6 ∷ 7 ∷ 8 ∷ 9 ∷ 22 ∷ 23 ∷ 24 ∷ []) (tail_tests b (word_at image) n) ≡ true
    tails true n = view-numbers (0 ∷ 1 ∷ 2 ∷ 3 ∷ 4 ∷ 5 ∷ 6 ∷ 7 ∷ 8 ∷ 9 ∷ 22 ∷ 23 ∷ 24 ∷ []) (partitionable_in (word_at image 0)) refl (word_at image) n _ _
    tails false n = view-numbers (0 ∷ 1 ∷ 2 ∷ 3 ∷ 4 ∷ 5 ∷ 6 ∷ 7 ∷ 8 ∷ 9 ∷ 22 ∷ 23 ∷ 24 ∷ []) (partitionable_in (word_at image 0)) refl (word_at image) n _ _

saving-numbers : (image out : List ℕ) → one_of (0 ∷ 1 ∷ 2 ∷ 3 ∷ 4 ∷ 5 ∷ 6 ∷ 7 ∷ 8 ∷ 9 ∷ 22 ∷ []) (save_call image out).answer.number ≡ true
unfolding saving_verdict one_of all_among
saving-numbers image out =
    let ns : List ℕ = 0 ∷ 1 ∷ 2 ∷ 3 ∷ 4 ∷ 5 ∷ 6 ∷ 7 ∷ 8 ∷ 9 ∷ 22 ∷ [] in
    numbered ns (saving_verdict image out) 0 (state_of image) out (saving image out)
    (among_then ns (check_image image) _ (among-image ns image (record { zero = refl; head = λ _. refl; counts = refl; fading = refl; modules = λ _ _. refl }) tails) (among-all ns (single (has_room image (left_in image) out) 9 0 ∷ []) refl refl))
  where
    tails : (b : Bool) (n : ℕ) → all_among (0 ∷ 1 ∷ 2 ∷ 3 ∷ 4 ∷ 5 ∷ 6 ∷ 7 ∷ 8 ∷ 9 ∷ 22 ∷ []) (tail_tests b (word_at image) n) ≡ true
    tails true n = view-numbers (0 ∷ 1 ∷ 2 ∷ 3 ∷ 4 ∷ 5 ∷ 6 ∷ 7 ∷ 8 ∷ 9 ∷ 22 ∷ []) (partitionable_in (word_at image 0)) refl (word_at image) n _ _
    tails false n = view-numbers (0 ∷ 1 ∷ 2 ∷ 3 ∷ 4 ∷ 5 ∷ 6 ∷ 7 ∷ 8 ∷ 9 ∷ 22 ∷ []) (partitionable_in (word_at image 0)) refl (word_at image) n _ _

outgoing-numbers : (image : List ℕ) → one_of (0 ∷ 1 ∷ 2 ∷ 3 ∷ 4 ∷ 5 ∷ 6 ∷ 7 ∷ 8 ∷ 22 ∷ []) (outgoing_call image).number ≡ true
unfolding outgoing_call one_of all_among
outgoing-numbers image =
    let ns : List ℕ = 0 ∷ 1 ∷ 2 ∷ 3 ∷ 4 ∷ 5 ∷ 6 ∷ 7 ∷ 8 ∷ 22 ∷ [] in
    among-image ns image (record { zero = refl; head = λ _. refl; counts = refl; fading = refl; modules = λ _ _. refl }) tails
  where
    tails : (b : Bool) (n : ℕ) → all_among (0 ∷ 1 ∷ 2 ∷ 3 ∷ 4 ∷ 5 ∷ 6 ∷ 7 ∷ 8 ∷ 22 ∷ []) (tail_tests b (word_at image) n) ≡ true
    tails true n = view-numbers (0 ∷ 1 ∷ 2 ∷ 3 ∷ 4 ∷ 5 ∷ 6 ∷ 7 ∷ 8 ∷ 22 ∷ []) (partitionable_in (word_at image 0)) refl (word_at image) n _ _
    tails false n = view-numbers (0 ∷ 1 ∷ 2 ∷ 3 ∷ 4 ∷ 5 ∷ 6 ∷ 7 ∷ 8 ∷ 22 ∷ []) (partitionable_in (word_at image 0)) refl (word_at image) n _ _

outgoing-view-numbers : (image : List ℕ) → one_of (0 ∷ 1 ∷ 2 ∷ 3 ∷ 4 ∷ 5 ∷ 6 ∷ 7 ∷ 8 ∷ 22 ∷ []) (outgoing_view_call image).number ≡ true
unfolding outgoing_call outgoing_view_call
outgoing-view-numbers image = outgoing-numbers image

cause-numbers : (n controller word : ℕ) → one_of (0 ∷ 2 ∷ 10 ∷ []) (cause_call n controller word).number ≡ true
unfolding cause_call one_of
cause-numbers n controller word =
    cond_both (λ (a : CauseAnswer). one_of (0 ∷ 2 ∷ 10 ∷ []) a.number ≡ true) (between 2 16 n) _ _
    (cond_both (λ (a : CauseAnswer). one_of (0 ∷ 2 ∷ 10 ∷ []) a.number ≡ true) (ltb controller 2) _ _ refl refl) refl

pub refusals : Refusals
refusals = record {
  opening = opening;
  step = step;
  changing = changing;
  saving = saving;
  setup-numbers = setup-numbers;
  opening-numbers = opening-numbers;
  step-numbers = step-numbers;
  change-numbers = change-numbers;
  saving-numbers = saving-numbers;
  outgoing-numbers = outgoing-numbers;
  outgoing-view-numbers = outgoing-view-numbers;
  cause-numbers = cause-numbers;
}
