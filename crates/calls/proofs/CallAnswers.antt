-- What a call from C leaves in its output: accepted, the image of the state that it gives; refused, what was there.
use Prim.Native.Nat.{ℕ}
use mathlib.Core.Path.{◌≡◌, refl, sym, ap, ◌∙◌}
use mathlib.Core.Bool.{Bool, true, false, cond}
use mathlib.Core.Logic.{◌≢◌}
use mathlib.Core.List.{List}
use native.Mathlib.Omega.{arith}
use lib.Dec.{eqb}
use borrow.Author.Tests.{eq-eqb, eqb-true, eqb-false}
use Rattle.words.proofs.Truth.{cond-true}
use Rattle.words.specs.Verdict.{is_accepted}
use Rattle.setup.specs.Setup.{setup_of}
use Rattle.setup.specs.Check.{check_setup}
use Rattle.words.specs.Verdict.{Verdict}
use Rattle.image.specs.Check.{check_image}
use Rattle.presence.specs.Opening.{open_of}
use Rattle.presence.specs.Step.{step_of}
use Rattle.presence.specs.Change.{change_of}
use Rattle.presence.specs.Image.{image_of, state_of, room_for, room_after}
use Rattle.calls.specs.Calls.{Called, refused_call, wrote, open_call, step_call, change_call, save_call}
use Rattle.presence.specs.declared.State.{State}
use Rattle.presence.specs.Change.{Changed}

-- ---- what a call of three tests gives: of what it reads, of what it makes, of the room in its output

module _ (v : Verdict) (number index health : ℕ) (st : State) (out : List ℕ) where
  -- the tests in the order of opening, and in that of a step
  opening : Bool → Bool → Bool → Called
  opening a b c = cond a (cond b (cond c (wrote health st) (refused_call 9 0 out)) (refused_call number index out)) (refused_call v.number v.index out)

  step : Bool → Bool → Bool → Called
  step a b c = cond a (cond c (cond b (wrote health st) (refused_call number index out)) (refused_call 9 0 out)) (refused_call v.number v.index out)

  abbrev Written : Called → Type 0
  Written call = (call.out ≡ image_of st) × (call.answer.health ≡ health)

  opening-wrote : (a b c : Bool) → is_accepted v ≡ a → eqb number 0 ≡ b → (opening a b c).answer.number ≡ 0 → Written (opening a b c)
  unfolding opening wrote refused_call
  opening-wrote true true true p q z = (refl, refl)
  opening-wrote true true false p q z = absurd (omega arith)
  opening-wrote true false c p q z = absurd (eqb-false number 0 q z)
  opening-wrote false b c p q z = absurd (eqb-false v.number 0 p z)

  -- each test of an accepted call came out true
  opening-tests : (a b c : Bool) → is_accepted v ≡ a → eqb number 0 ≡ b → (opening a b c).answer.number ≡ 0 → (a ≡ true) × (b ≡ true)
  unfolding opening wrote refused_call
  opening-tests true true c p q z = (refl, refl)
  opening-tests true false c p q z = absurd (eqb-false number 0 q z)
  opening-tests false b c p q z = absurd (eqb-false v.number 0 p z)

  opening-kept : (a b c : Bool) → (opening a b c).answer.number ≢ 0 → (opening a b c).out ≡ out
  unfolding opening wrote refused_call
  opening-kept true true true f = absurd (f refl)
  opening-kept true true false f = refl
  opening-kept true false c f = refl
  opening-kept false b c f = refl

  step-wrote : (a b c : Bool) → is_accepted v ≡ a → eqb number 0 ≡ b → (step a b c).answer.number ≡ 0 → Written (step a b c)
  unfolding step wrote refused_call
  step-wrote true true true p q z = (refl, refl)
  step-wrote true b false p q z = absurd (omega arith)
  step-wrote true false true p q z = absurd (eqb-false number 0 q z)
  step-wrote false b c p q z = absurd (eqb-false v.number 0 p z)

  step-tests : (a b c : Bool) → is_accepted v ≡ a → eqb number 0 ≡ b → (step a b c).answer.number ≡ 0 → (a ≡ true) × (b ≡ true)
  unfolding step wrote refused_call
  step-tests true true c p q z = (refl, refl)
  step-tests true false true p q z = absurd (eqb-false number 0 q z)
  step-tests true false false p q z = absurd (omega arith)
  step-tests false b c p q z = absurd (eqb-false v.number 0 p z)

  step_kept : (a b c : Bool) → (step a b c).answer.number ≢ 0 → (step a b c).out ≡ out
  unfolding step wrote refused_call
  step_kept true true true f = absurd (f refl)
  step_kept true b false f = refl
  step_kept true false true f = refl
  step_kept false b c f = refl

-- ---- opening

module _ (setup : List ℕ) (own : ℕ) (out : List ℕ) where
  pub open-writes : (open_call setup own out).answer.number ≡ 0 → (open_call setup own out).out ≡ image_of (open_of (setup_of setup) own).state
  unfolding open_call opening
  open-writes z = (opening-wrote (check_setup setup) (open_of (setup_of setup) own).number (open_of (setup_of setup) own).index 0
      (open_of (setup_of setup) own).state out (is_accepted (check_setup setup)) (eqb (open_of (setup_of setup) own).number 0) (room_for (open_of (setup_of setup) own).state out)
      refl refl z).0

  pub open-passed : (open_call setup own out).answer.number ≡ 0 → ((check_setup setup).number ≡ 0) × ((open_of (setup_of setup) own).number ≡ 0)
  unfolding open_call opening
  open-passed z =
      let (v, o) = opening-tests (check_setup setup) (open_of (setup_of setup) own).number (open_of (setup_of setup) own).index 0
      (open_of (setup_of setup) own).state out (is_accepted (check_setup setup)) (eqb (open_of (setup_of setup) own).number 0) (room_for (open_of (setup_of setup) own).state out)
      refl refl z in
      (eqb-true (check_setup setup).number 0 v, eqb-true (open_of (setup_of setup) own).number 0 o)

  pub open-keeps : (open_call setup own out).answer.number ≢ 0 → (open_call setup own out).out ≡ out
  unfolding open_call opening
  open-keeps f = opening-kept (check_setup setup) (open_of (setup_of setup) own).number (open_of (setup_of setup) own).index 0
      (open_of (setup_of setup) own).state out (is_accepted (check_setup setup)) (eqb (open_of (setup_of setup) own).number 0) (room_for (open_of (setup_of setup) own).state out) f

-- ---- step

module _ (image read : List ℕ) (controller : ℕ) (out : List ℕ) where
  pub step-writes : (step_call image read controller out).answer.number ≡ 0
      → ((step_call image read controller out).out ≡ image_of (step_of (state_of image) read controller).state)
      × ((step_call image read controller out).answer.health ≡ (step_of (state_of image) read controller).health)
  unfolding step_call step
  step-writes z =
      step-wrote (check_image image) (step_of (state_of image) read controller).number (step_of (state_of image) read controller).index
      (step_of (state_of image) read controller).health (step_of (state_of image) read controller).state out (is_accepted (check_image image))
      (eqb (step_of (state_of image) read controller).number 0) (room_after (state_of image) out) refl refl z

  pub step-passed : (step_call image read controller out).answer.number ≡ 0
      → ((check_image image).number ≡ 0) × ((step_of (state_of image) read controller).number ≡ 0)
  unfolding step_call step
  step-passed z =
      let (v, t) = step-tests (check_image image) (step_of (state_of image) read controller).number (step_of (state_of image) read controller).index
      (step_of (state_of image) read controller).health (step_of (state_of image) read controller).state out (is_accepted (check_image image))
      (eqb (step_of (state_of image) read controller).number 0) (room_after (state_of image) out) refl refl z in
      (eqb-true (check_image image).number 0 v, eqb-true (step_of (state_of image) read controller).number 0 t)

  pub step_keeps : (step_call image read controller out).answer.number ≢ 0 → (step_call image read controller out).out ≡ out
  unfolding step_call step
  step_keeps f =
      step_kept (check_image image) (step_of (state_of image) read controller).number (step_of (state_of image) read controller).index
      (step_of (state_of image) read controller).health (step_of (state_of image) read controller).state out (is_accepted (check_image image))
      (eqb (step_of (state_of image) read controller).number 0) (room_after (state_of image) out) f

  pub step-passes : (check_image image).number ≡ 0 → room_after (state_of image) out ≡ true → (step_of (state_of image) read controller).number ≡ 0
      → (step_call image read controller out).answer.number ≡ 0
  unfolding step_call wrote
  step-passes v r z =
      ap (λ (c : Called). c.answer.number)
      (cond-true _ _ (eq-eqb (check_image image).number 0 v) ∙ cond-true _ _ r ∙ cond-true _ _ (eq-eqb (step_of (state_of image) read controller).number 0 z))

-- ---- change

module _ (image new : List ℕ) (lead : ℕ) (out : List ℕ) where
  abbrev changed : Changed
  changed = change_of (state_of image) (setup_of new) lead

  -- an image that is accepted: the new setup, the change, the room
  abbrev rest : Called
  rest = opening (check_setup new) changed.number changed.index 0 changed.state out (is_accepted (check_setup new)) (eqb changed.number 0) (room_for changed.state out)

  -- the test of the image, then the others
  first : (a : Bool) → is_accepted (check_image image) ≡ a → (c : Called) → c ≡ cond a rest (refused_call (check_image image).number (check_image image).index out)
      → c.answer.number ≡ 0 → ((check_image image).number ≡ 0) × (c ≡ rest)
  unfolding refused_call
  first true e c h z = (eqb-true (check_image image).number 0 e, h)
  first false e c h z = absurd (eqb-false (check_image image).number 0 e (ap (λ (x : Called). x.answer.number) (sym h) ∙ z))

  taken : (change_call image new lead out).answer.number ≡ 0 → ((check_image image).number ≡ 0) × (change_call image new lead out ≡ rest)
  unfolding change_call opening
  taken z = first (is_accepted (check_image image)) refl (change_call image new lead out) refl z

  pub change-passed : (change_call image new lead out).answer.number ≡ 0
      → ((check_image image).number ≡ 0) × ((check_setup new).number ≡ 0) × ((change_of (state_of image) (setup_of new) lead).number ≡ 0)
  change-passed z =
      let (v, e) = taken z in
      let (w, o) = opening-tests (check_setup new) changed.number changed.index 0 changed.state out (is_accepted (check_setup new)) (eqb changed.number 0)
      (room_for changed.state out) refl refl (ap (λ (c : Called). c.answer.number) (sym e) ∙ z)
      in
      (v, eqb-true (check_setup new).number 0 w, eqb-true changed.number 0 o)

  pub change-writes : (change_call image new lead out).answer.number ≡ 0
      → (change_call image new lead out).out ≡ image_of (change_of (state_of image) (setup_of new) lead).state
  change-writes z =
      let (v, e) = taken z in
      ap (λ (c : Called). c.out) e
      ∙ (opening-wrote (check_setup new) changed.number changed.index 0 changed.state out (is_accepted (check_setup new)) (eqb changed.number 0)
      (room_for changed.state out) refl refl (ap (λ (c : Called). c.answer.number) (sym e) ∙ z)).0

  pub change-keeps : (change_call image new lead out).answer.number ≢ 0 → (change_call image new lead out).out ≡ out
  unfolding change_call opening refused_call
  change-keeps f = go (is_accepted (check_image image)) f
    where
      go : (a : Bool) → (cond a rest (refused_call (check_image image).number (check_image image).index out)).answer.number ≢ 0
          → (cond a rest (refused_call (check_image image).number (check_image image).index out)).out ≡ out
      go true g = opening-kept (check_setup new) changed.number changed.index 0 changed.state out (is_accepted (check_setup new)) (eqb changed.number 0)
          (room_for changed.state out) g
      go false g = refl

  pub change-passes : (check_image image).number ≡ 0 → (check_setup new).number ≡ 0 → (change_of (state_of image) (setup_of new) lead).number ≡ 0
      → room_for (change_of (state_of image) (setup_of new) lead).state out ≡ true → (change_call image new lead out).answer.number ≡ 0
  unfolding change_call wrote
  change-passes v w z r =
      ap (λ (c : Called). c.answer.number)
      (cond-true _ _ (eq-eqb (check_image image).number 0 v) ∙ cond-true _ _ (eq-eqb (check_setup new).number 0 w)
      ∙ cond-true _ _ (eq-eqb changed.number 0 z) ∙ cond-true _ _ r)

-- ---- saving

module _ (image out : List ℕ) where
  pub save-writes : (save_call image out).answer.number ≡ 0 → (save_call image out).out ≡ image_of (state_of image)
  unfolding save_call step
  save-writes z = (step-wrote (check_image image) 0 0 0 (state_of image) out (is_accepted (check_image image)) true (room_for (state_of image) out) refl refl z).0

  pub save-passed : (save_call image out).answer.number ≡ 0 → (check_image image).number ≡ 0
  unfolding save_call step
  save-passed z =
      eqb-true (check_image image).number 0
      (step-tests (check_image image) 0 0 0 (state_of image) out (is_accepted (check_image image)) true (room_for (state_of image) out) refl refl z).0

  pub save-keeps : (save_call image out).answer.number ≢ 0 → (save_call image out).out ≡ out
  unfolding save_call step
  save-keeps f = step_kept (check_image image) 0 0 0 (state_of image) out (is_accepted (check_image image)) true (room_for (state_of image) out) f
