-- Reading and the calls from C, put together from the way that their tests came out.
use Prim.Native.Nat.{ℕ, ◌/◌, ◌%◌, ◌^◌}
use native.Mathlib.Omega.{arith}
use Rattle.std.specs.Prelude.{Ok, Err}
use mathlib.Core.Path.{◌≡◌, refl, sym, ap, ◌∙◌}
use mathlib.Core.Bool.{Bool, true, false}
use mathlib.Core.List.{List}
use borrow.Author.Tests.{eq-eqb, ne_eqb}
use lib.Dec.{eqb}
use lib.ListN.{length}
use Rattle.words.specs.Word.{word_at}
use Rattle.words.specs.Bits.{b2n}
use Rattle.words.proofs.Truth.{cond-true}
use Rattle.words.specs.Verdict.{Verdict, verdict, accepted, single, outcome}
use Rattle.words.specs.Refusal.{code, refusal_told}
use Rattle.words.specs.declared.Number.{Number}
use Rattle.words.specs.declared.Refusal.{Refusal}
use Rattle.words.proofs.VerdictLaws.{single-ok, single-refused}
use Rattle.words.proofs.RefusalLaws.{code-positive}
use Rattle.scanlock.specs.Locks.{event_answer, locks, open_locks, event_of, joystick_of}
use Rattle.scanlock.specs.declared.Axis.{Axis}
use Rattle.scanlock.specs.declared.Locks.{Locks}
use Rattle.scanlock.specs.declared.Event.{Event}
use Rattle.scanlock.proofs.LockEventLaws.{yes, no}
use Rattle.lockcalls.specs.LockImage.{LocksRead, axes_in, locks_of, read_locks, locks_told, lock_image, check_lock_image}
use Rattle.lockcalls.specs.LockCalls.{lock_answer, lock_called, answer_for, answer_by, save_locks, lock_open_call, event_call, joystick_call}
use Rattle.lockcalls.specs.declared.LockAnswer.{LockAnswer}

-- the number of a refusal is not 0
not-none : (number : Number) → eqb (code number) 0 ≡ false
not-none number =
    let p = code-positive number in
    ne_eqb (code number) 0 (omega arith)

-- a test of one word that refuses
pub single-wrong : (ok : Bool) (number place : ℕ) {v : Verdict} → v ≡ outcome (single ok number place) → (v.number ≡ 0 → ⊥)
    → (ok ≡ false) × (v ≡ verdict number place)
single-wrong true number place h f = absurd (f (ap (λ (v : Verdict). v.number) (h ∙ single-ok true number place refl)))
single-wrong false number place h f = (refl, h ∙ single-refused false number place refl)

-- the joystick of some locks, as a number
pub answer-made : (number : ℕ) (st : Locks) {b : Bool} {j : ℕ} → b ≡ joystick_of st → j ≡ b2n b → lock_answer number 0 j ≡ answer_for number st
answer-made number st e h = ap (λ (j : ℕ). lock_answer number 0 j) (h ∙ ap b2n e)

-- ---- reading

pub locks-made : (s : List ℕ) {w : ℕ} {xs : List Axis} → w ≡ word_at s 0 → xs ≡ axes_in s → locks (w / 2 ^ 16) (w % 2 ^ 16) xs ≡ locks_of s
unfolding locks_of
locks-made s e h = rw (e, h) refl

pub read-refused : (s : List ℕ) {v : Verdict} (e : Refusal) → v ≡ check_lock_image s → refusal_told e ≡ v → locks_told (Err e) ≡ read_locks s
unfolding read_locks
read-refused s e h k = rw (← h, ← k, not-none e.number) refl

pub read-accepted : (s : List ℕ) {v : Verdict} {st : Locks} → v ≡ check_lock_image s → v ≡ accepted → st ≡ locks_of s → locks_told (Ok st) ≡ read_locks s
unfolding read_locks
read-accepted s h a k = rw (← h, a, k) refl

-- ---- calls

pub lock-saved : (st : Locks) (out : List ℕ) {r : LockAnswer} {o : List ℕ} → length out ≡ 36 → r ≡ answer_for 0 st → o ≡ lock_image st
    → lock_called r o ≡ save_locks st out
unfolding save_locks
lock-saved st out l e h = yes _ (eq-eqb _ 36 l) (rw (e, h) refl)

pub lock-not-saved : (st : Locks) (out : List ℕ) {r : LockAnswer} → (length out ≡ 36 → ⊥) → r ≡ lock_answer 9 0 0 → lock_called r out ≡ save_locks st out
unfolding save_locks
lock-not-saved st out l e = no _ (ne_eqb _ 36 l) (ap (λ (x : LockAnswer). lock_called x out) e)

module _ (n : ℕ) (out : List ℕ) where
  pub lock-open-refused : (number : Number) (st : Locks) {r : LockAnswer} → event_answer (code number) st ≡ open_locks n → r ≡ lock_answer (code number) 0 0
      → lock_called r out ≡ lock_open_call n out
  unfolding lock_open_call
  lock-open-refused number st e k = rw (← e, not-none number, k) refl

  pub lock-open-done : (st : Locks) {r : LockAnswer} {o : List ℕ} → event_answer 0 st ≡ open_locks n → lock_called r o ≡ save_locks st out
      → lock_called r o ≡ lock_open_call n out
  unfolding lock_open_call
  lock-open-done st e k = rw (← e) k

-- the number of the check, as a test
checked : (s : List ℕ) {v : Verdict} → v ≡ check_lock_image s → v.number ≡ 0 → eqb (check_lock_image s).number 0 ≡ true
checked s e h = eq-eqb _ 0 (ap (λ (x : Verdict). x.number) (sym e) ∙ h)

unchecked : (s : List ℕ) {v : Verdict} → v ≡ check_lock_image s → (v.number ≡ 0 → ⊥) → eqb (check_lock_image s).number 0 ≡ false
unchecked s e h = ne_eqb _ 0 (λ (k : (check_lock_image s).number ≡ 0). h (ap (λ (x : Verdict). x.number) e ∙ k))

module _ (image : List ℕ) (e : Event) (out : List ℕ) {v : Verdict} (ev : v ≡ check_lock_image image) where
  pub call-image : {r : LockAnswer} → (v.number ≡ 0 → ⊥) → r ≡ answer_by v → lock_called r out ≡ event_call image e out
  unfolding event_call
  call-image h k = no _ (unchecked image ev h) (ap (λ (x : LockAnswer). lock_called x out) (k ∙ ap answer_by ev))

  pub call-output : {r : LockAnswer} → v.number ≡ 0 → (length out ≡ 36 → ⊥) → r ≡ lock_answer 9 0 0 → lock_called r out ≡ event_call image e out
  unfolding event_call
  call-output h l k = yes _ (checked image ev h) (no _ (ne_eqb _ 36 l) (ap (λ (x : LockAnswer). lock_called x out) k))

  module _ {st : Locks} (h : v.number ≡ 0) (l : length out ≡ 36) (es : st ≡ locks_of image) where
    pub call-refused : (number : Number) {r : LockAnswer} → event_answer (code number) st ≡ event_of st e → r ≡ answer_for (code number) st
        → lock_called r out ≡ event_call image e out
    unfolding event_call
    call-refused number ea k =
        yes _ (checked image ev h) (yes _ (eq-eqb _ 36 l) (rw (← es, ← ea, not-none number, k) refl))

    pub call-done : (next : Locks) {r : LockAnswer} {o : List ℕ} → event_answer 0 next ≡ event_of st e → lock_called r o ≡ save_locks next out
        → lock_called r o ≡ event_call image e out
    unfolding event_call save_locks
    call-done next ea k =
        yes _ (checked image ev h) (yes _ (eq-eqb _ 36 l) (rw (← es, ← ea) (k ∙ cond-true _ _ (eq-eqb _ 36 l))))

module _ (image : List ℕ) where
  pub joystick-refused : (e : Refusal) {r : LockAnswer} → locks_told (Err e) ≡ read_locks image → r ≡ answer_by (refusal_told e) → r ≡ joystick_call image
  unfolding read_locks joystick_call
  joystick-refused e h k =
      let z : eqb (check_lock_image image).number 0 ≡ false = ap (λ (x : LocksRead). eqb x.number 0) (sym h) ∙ not-none e.number in
      no _ z (k ∙ ap (λ (x : LocksRead). lock_answer x.number x.index 0) h)

  pub joystick-done : (st : Locks) {r : LockAnswer} → locks_told (Ok st) ≡ read_locks image → r ≡ answer_for 0 st → r ≡ joystick_call image
  unfolding read_locks joystick_call
  joystick-done st h k =
      let z : eqb (check_lock_image image).number 0 ≡ true = ap (λ (x : LocksRead). eqb x.number 0) (sym h) in
      yes _ z (k ∙ ap (λ (x : LocksRead). answer_for 0 x.locks) h ∙ ap (answer_for 0) (cond-true _ _ z))
