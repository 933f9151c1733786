-- The image that a C caller holds after a history is that of the locks after it, so its answers are those of the history.
use Prim.Native.Nat.{ℕ, ◌≤◌}
use mathlib.Core.Path.{◌≡◌, refl, sym, ap, ap₂, ◌∙◌, subst}
use mathlib.Core.Bool.{Bool, true, false, cond, ◌&&◌}
use mathlib.Core.Logic.{⊎_elim}
use mathlib.Core.List.{List, ◌∷◌}
use native.Mathlib.Omega.{arith}
use borrow.Author.Tests.{eqb-true, eqb-false, eq-eqb, ne_eqb}
use lib.Dec.{eqb, leb}
use lib.ListN.{length}
use Rattle.words.specs.Bits.{b2n}
use Rattle.words.proofs.Truth.{which, cond-true, cond-false}
use Rattle.words.specs.Verdict.{Verdict}
use Rattle.page.proofs.PageRefusals.{refusals}
use Rattle.scanlock.specs.Locks.{EventAnswer, fresh_locks, open_locks, event_of}
use Rattle.scanlock.specs.ByHistory.{locks_after}
use Rattle.scanlock.specs.SoundLocks.{SoundLocks}
use Rattle.scanlock.specs.declared.Locks.{Locks}
use Rattle.scanlock.specs.declared.Event.{Event}
use Rattle.scanlock.proofs.LockEventLaws.{in_bounds}
use Rattle.scanlock.proofs.ByHistory.{by-history}
use Rattle.scanlock.proofs.SoundLocks.{fresh-sound, event-sound}
use Rattle.scanlock.proofs.EventRefusalLaws.{refused-same}
use Rattle.lockcalls.specs.LockImage.{lock_image, locks_of, check_lock_image}
use Rattle.lockcalls.specs.LockCalls.{LockCalled, lock_answer, lock_called, answer_for, answer_by, save_locks, lock_open_call, event_call, joystick_call}
use Rattle.lockcalls.specs.Callers.{LockRoundTrip, lock-opening, lock-event, of-presence, Unaltered, HeldLock, lock-opened, event-told, event-refused, other-refused, ImagesByHistory}
use Rattle.lockcalls.specs.declared.LockAnswer.{LockAnswer}
use Rattle.lockcalls.proofs.LockImageLaws.{lock-written-read, lock-read-written}

pub lock-round-trip : LockRoundTrip
lock-round-trip = record { written_read = lock-written-read; read-written = lock-read-written }

-- ---- a refused call leaves its output

event-keeps : (image : List ℕ) (e : Event) (out : List ℕ) → ((event_call image e out).answer.number ≡ 0 → ⊥) → (event_call image e out).out ≡ out
unfolding event_call
event-keeps image e out f =
    kept (check_lock_image image) (event_of (locks_of image) e) (locks_of image) (eqb (check_lock_image image).number 0) (eqb (length out) 36)
    (eqb (event_of (locks_of image) e).number 0) out f
  where
    kept : (v : Verdict) (a : EventAnswer) (st : Locks) (p q r : Bool) (out : List ℕ)
        → ((cond p (cond q (cond r (lock_called (answer_for 0 a.locks) (lock_image a.locks)) (lock_called (answer_for a.number st) out)) (lock_called (lock_answer 9 0 0) out))
        (lock_called (answer_by v) out)).answer.number ≡ 0 → ⊥)
        → (cond p (cond q (cond r (lock_called (answer_for 0 a.locks) (lock_image a.locks)) (lock_called (answer_for a.number st) out)) (lock_called (lock_answer 9 0 0) out))
        (lock_called (answer_by v) out)).out ≡ out
    kept v a st true true true out f = absurd (f refl)
    kept v a st true true false out f = refl
    kept v a st true false r out f = refl
    kept v a st false q r out f = refl

open-keeps : (n : ℕ) (out : List ℕ) → ((lock_open_call n out).answer.number ≡ 0 → ⊥) → (lock_open_call n out).out ≡ out
unfolding lock_open_call save_locks
open-keeps n out f = kept (open_locks n) (eqb (open_locks n).number 0) (eqb (length out) 36) f
  where
    kept : (o : EventAnswer) (p q : Bool)
        → ((cond p (cond q (lock_called (answer_for 0 o.locks) (lock_image o.locks)) (lock_called (lock_answer 9 0 0) out)) (lock_called (lock_answer o.number 0 0) out)
        ).answer.number ≡ 0 → ⊥)
        → (cond p (cond q (lock_called (answer_for 0 o.locks) (lock_image o.locks)) (lock_called (lock_answer 9 0 0) out)) (lock_called (lock_answer o.number 0 0) out)
        ).out ≡ out
    kept o true true f = absurd (f refl)
    kept o true false f = refl
    kept o false q f = refl

pub unaltered : Unaltered
unaltered before after (lock-opening m f) = open-keeps m before f
unaltered before after (lock-event image e f) = event-keeps image e before f
unaltered before after (of-presence r) = refusals.unaltered before after r

-- ---- a call on the image of sound locks

-- an event with room for its output
abbrev answer-to : Locks → Event → List ℕ → LockCalled
answer-to st e out =
    cond (eqb (event_of st e).number 0) (lock_called (answer_for 0 (event_of st e).locks) (lock_image (event_of st e).locks))
    (lock_called (answer_for (event_of st e).number st) out)

module _ (st : Locks) (s : SoundLocks st) (e : Event) (out : List ℕ) where
  call-as : length out ≡ 36 → event_call (lock_image st) e out ≡ answer-to st e out
  unfolding event_call
  call-as l =
      let (c, b) = lock-written-read st s in
      cond-true _ _ (ap (λ (v : Verdict). eqb v.number 0) c) ∙ cond-true _ _ (eq-eqb _ 36 l) ∙ ap (λ (x : Locks). answer-to x e out) b

  call-short : (length out ≡ 36 → ⊥) → event_call (lock_image st) e out ≡ lock_called (lock_answer 9 0 0) out
  unfolding event_call
  call-short l =
      let (c, b) = lock-written-read st s in
      cond-true _ _ (ap (λ (v : Verdict). eqb v.number 0) c) ∙ cond-false _ _ (ne_eqb _ 36 l)

  -- an accepted event writes the locks after it
  call-writes : (event_call (lock_image st) e out).answer.number ≡ 0 → (event_call (lock_image st) e out).out ≡ lock_image (event_of st e).locks
  call-writes z =
      ⊎_elim
      (λ (l : eqb (length out) 36 ≡ true).
      let c = call-as (eqb-true _ 36 l) in
      ⊎_elim
      (λ (p : eqb (event_of st e).number 0 ≡ true). ap (λ (x : LockCalled). x.out) (c ∙ cond-true _ _ p))
      (λ (p : eqb (event_of st e).number 0 ≡ false).
      absurd (eqb-false _ 0 p (sym (ap (λ (x : LockCalled). x.answer.number) (c ∙ cond-false _ _ p)) ∙ z)))
      (which (eqb (event_of st e).number 0)))
      (λ (l : eqb (length out) 36 ≡ false).
      absurd (nine (sym (ap (λ (x : LockCalled). x.answer.number) (call-short (eqb-false _ 36 l))) ∙ z)))
      (which (eqb (length out) 36))
    where
      nine : (◌≡◌ {A = ℕ} 9 0) → ⊥
      nine h = omega arith

  -- the answer, accepted or refused
  call-answers : length out ≡ 36 → (event_call (lock_image st) e out).answer ≡ answer_for (event_of st e).number (event_of st e).locks
  call-answers l =
      ⊎_elim
      (λ (p : eqb (event_of st e).number 0 ≡ true).
      ap (λ (x : LockCalled). x.answer) (call-as l ∙ cond-true _ _ p)
      ∙ ap (λ (m : ℕ). answer_for m (event_of st e).locks) (sym (eqb-true _ 0 p)))
      (λ (p : eqb (event_of st e).number 0 ≡ false).
      ap (λ (x : LockCalled). x.answer) (call-as l ∙ cond-false _ _ p)
      ∙ ap (λ (x : Locks). answer_for (event_of st e).number x) (sym (refused-same st e (eqb-false _ 0 p))))
      (which (eqb (event_of st e).number 0))

-- ---- the opening

open-writes : (n : ℕ) (out : List ℕ) → (lock_open_call n out).answer.number ≡ 0 → ((lock_open_call n out).out ≡ lock_image (fresh_locks n)) × SoundLocks (fresh_locks n)
unfolding lock_open_call open_locks save_locks
open-writes n out z =
    ⊎_elim
    (λ (p : leb 2 n && leb n 16 ≡ true).
    let (a, b) = within_both n p in
    ⊎_elim
    (λ (l : eqb (length out) 36 ≡ true). (rw (p, l) refl, fresh-sound n a b))
    (λ (l : eqb (length out) 36 ≡ false). absurd (nine (rw (p, l) at z)))
    (which (eqb (length out) 36)))
    (λ (p : leb 2 n && leb n 16 ≡ false). absurd (two (rw p at z)))
    (which (leb 2 n && leb n 16))
  where
    nine : (◌≡◌ {A = ℕ} 9 0) → ⊥
    nine h = omega arith

    two : (◌≡◌ {A = ℕ} 2 0) → ⊥
    two h = omega arith

    within_both : (m : ℕ) → leb 2 m && leb m 16 ≡ true → (2 ≤ m) × (m ≤ 16)
    within_both m e = in_bounds 2 16 m e

-- ---- every history

held-is : (n : ℕ) (h : List Event) (image : List ℕ) → HeldLock n h image → (image ≡ lock_image (locks_after n h)) × SoundLocks (locks_after n h)
unfolding locks_after
held-is n h image (lock-opened out z) = open-writes n out z
held-is n g image (event-told {h = h} {image = old} e out k z) =
    let (i, s) = held-is n h old k in
    let z' = subst (λ (x : List ℕ). (event_call x e out).answer.number ≡ 0) i z in
    (ap (λ (x : List ℕ). (event_call x e out).out) i ∙ call-writes (locks_after n h) s e out z', event-sound (locks_after n h) e s)
held-is n g image (event-refused {h = h} e out k l z) =
    let (i, s) = held-is n h image k in
    let q : (event_of (locks_after n h) e).number ≡ 0 → ⊥ = λ m.
    z (ap (λ (x : List ℕ). (event_call x e out).answer.number) i
    ∙ ap (λ (x : LockAnswer). x.number) (call-answers (locks_after n h) s e out l) ∙ m) in
    (i ∙ ap lock_image (sym (refused-same (locks_after n h) e q)), event-sound (locks_after n h) e s)
held-is n h image (other-refused {image = old} k r) =
    let (i, s) = held-is n h old k in
    (unaltered old image r ∙ i, s)

pub images-by-history : ImagesByHistory
unfolding locks_after joystick_call
images-by-history n h image k =
    let (i, s) = held-is n h image k in
    record {
      one_form = i;
      tells = λ e out l.
          ap (λ (x : List ℕ). (event_call x e out).answer) i ∙ call-answers (locks_after n h) s e out l
          ∙ ap₂ (λ (m : ℕ) (b : Bool). lock_answer m 0 (b2n b)) ((by-history n h).answers e) (by-history n (e ∷ h)).joystick;
      no_room = λ e out l. ap (λ (x : List ℕ). event_call x e out) i ∙ call-short (locks_after n h) s e out l;
      joystick =
          let (c, b) = lock-written-read (locks_after n h) s in
          ap joystick_call i ∙ cond-true _ _ (ap (λ (v : Verdict). eqb v.number 0) c) ∙ ap (λ (x : Locks). answer_for 0 x) b
          ∙ ap (λ (b : Bool). lock_answer 0 0 (b2n b)) (by-history n h).joystick;
    }
