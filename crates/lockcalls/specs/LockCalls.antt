-- What C calls: the answer, and the output at exit, which a refusal leaves as it was.
use Rattle.std.specs.Prelude.{ℕ, Result, Ok, Err, cond, List, eqb, length}
use Rattle.words.specs.Bits.{b2n}
use Rattle.words.specs.Verdict.{Verdict, is_accepted}
use Rattle.words.specs.Refusal.{refusal_told}
use Rattle.words.specs.declared.Refusal.{Refusal}
use Rattle.scanlock.specs.Locks.{open_locks, event_of, joystick_of}
use Rattle.scanlock.specs.declared.Locks.{Locks}
use Rattle.scanlock.specs.declared.Event.{Event}
use Rattle.lockcalls.specs.LockImage.{lock_image, locks_of, check_lock_image}
use Rattle.lockcalls.specs.declared.LockAnswer.{LockAnswer}

-- what a call answers: number, index, and 1 for a live joystick
abbrev pub lock_answer : ℕ → ℕ → ℕ → LockAnswer
lock_answer number index joystick = record { number = number; index = index; joystick = joystick }

-- the answer and the output at exit
pub record LockCalled : Type 0 where
  pub answer : LockAnswer
  pub out : List ℕ

-- an answer with the output at exit
abbrev pub lock_called : LockAnswer → List ℕ → LockCalled
lock_called a out = record { answer = a; out = out }

-- an answer with the joystick of some locks
abbrev pub answer_for : ℕ → Locks → LockAnswer
answer_for number st = lock_answer number 0 (b2n (joystick_of st))

-- an answer by the verdict that refuses an image
abbrev pub answer_by : Verdict → LockAnswer
answer_by v = lock_answer v.number v.index 0

-- what code answers, a result, as the call has it
abbrev pub lock_told : Result LockAnswer Refusal → LockAnswer
lock_told (Ok a) = a
lock_told (Err e) = answer_by (refusal_told e)

-- 9 for an output that is not of 9 words
unfoldable pub save_locks : Locks → List ℕ → LockCalled
save_locks st out = cond (eqb (length out) 36) (lock_called (answer_for 0 st) (lock_image st)) (lock_called (lock_answer 9 0 0) out)

-- opening: 2, 9
unfoldable pub lock_open_call : ℕ → List ℕ → LockCalled
lock_open_call n out =
    let o = open_locks n in
    cond (eqb o.number 0) (save_locks o.locks out) (lock_called (lock_answer o.number 0 0) out)

-- an event: 1, 2, 3, 8 for the image, 9 for the output, then 19, 20, 21, where the joystick is that of the locks as they were
unfoldable pub event_call : List ℕ → Event → List ℕ → LockCalled
event_call image e out =
    let v = check_lock_image image in
    let st = locks_of image in
    let a = event_of st e in
    cond (is_accepted v)
    (cond (eqb (length out) 36)
    (cond (eqb a.number 0) (lock_called (answer_for 0 a.locks) (lock_image a.locks)) (lock_called (answer_for a.number st) out))
    (lock_called (lock_answer 9 0 0) out))
    (lock_called (answer_by v) out)

-- the joystick: 1, 2, 3, 8
unfoldable pub joystick_call : List ℕ → LockAnswer
joystick_call image = let v = check_lock_image image in cond (is_accepted v) (answer_for 0 (locks_of image)) (answer_by v)
