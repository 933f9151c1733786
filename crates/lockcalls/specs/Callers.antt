-- What holds of a C caller, who keeps the scan lock as its image. Proved in proofs/Callers.antt.
use Rattle.std.specs.Prelude.{ℕ, ◌<◌, ◌≡◌, ◌≢◌, List, [], ◌∷◌, get_or, length}
use Rattle.words.specs.Bits.{b2n}
use Rattle.words.specs.Verdict.{accepted}
use Rattle.page.specs.Refusals.{Refused as RefusedPresence}
use Rattle.scanlock.specs.History.{number, accepted_events, live}
use Rattle.scanlock.specs.ByHistory.{locks_after}
use Rattle.scanlock.specs.SoundLocks.{SoundLocks}
use Rattle.scanlock.specs.declared.Locks.{Locks}
use Rattle.scanlock.specs.declared.Event.{Event}
use Rattle.lockcalls.specs.LockImage.{lock_image, locks_of, check_lock_image}
use Rattle.lockcalls.specs.LockCalls.{lock_answer, lock_called, lock_open_call, event_call, joystick_call}

-- Locks are written in one form and read back equal; an accepted image is that of the locks that it holds.
pub record LockRoundTrip : Type 0 where
  pub written_read : (st : Locks) → SoundLocks st → (check_lock_image (lock_image st) ≡ accepted) × (locks_of (lock_image st) ≡ st)
  pub read-written : (s : List ℕ) → ((i : ℕ) → get_or s i 0 < 256) → (check_lock_image s).number ≡ 0 → SoundLocks (locks_of s) × (lock_image (locks_of s) ≡ s)

-- A refused call was lent the bytes `before` as its output, and left these: any call of include/scanlock.h, on any other
-- bytes, or of include/presence.h.
pub data RefusedCall (before : List ℕ) : List ℕ → Type 0 where
  lock-opening : (m : ℕ) → (lock_open_call m before).answer.number ≢ 0 → RefusedCall before (lock_open_call m before).out
  lock-event : (image : List ℕ) (e : Event) → (event_call image e before).answer.number ≢ 0 → RefusedCall before (event_call image e before).out
  of-presence : {after : List ℕ} → RefusedPresence before after → RefusedCall before after

-- Nothing lent is altered by a refusal, be it a scan lock's image or a module's.
abbrev pub Unaltered : Type 0
Unaltered = (before after : List ℕ) → RefusedCall before after → after ≡ before

-- The image that a caller holds after a history: the output of the opening, and from an accepted event on its output; a refused
-- event leaves it. The output lent to a call is any buffer.
pub data HeldLock (n : ℕ) : List Event → List ℕ → Type 0 where
  lock-opened : (out : List ℕ) → (lock_open_call n out).answer.number ≡ 0 → HeldLock n [] (lock_open_call n out).out
  event-told : {h : List Event} {image : List ℕ} (e : Event) (out : List ℕ) → HeldLock n h image → (event_call image e out).answer.number ≡ 0
      → HeldLock n (e ∷ h) (event_call image e out).out
  -- the event itself is refused: there was room for its output
  event-refused : {h : List Event} {image : List ℕ} (e : Event) (out : List ℕ) → HeldLock n h image → length out ≡ 36
      → (event_call image e out).answer.number ≢ 0 → HeldLock n (e ∷ h) image
  -- a refused call of any kind that was lent the image's own buffer
  other-refused : {h : List Event} {image after : List ℕ} → HeldLock n h image → RefusedCall image after → HeldLock n h after

-- Such an image is that of the locks after the history; each further event is answered, and the joystick is live, as the history has it.
-- An output of another length than 36 bytes is refused by 9, and stays as it was: the event was not told.
pub record Answers (n : ℕ) (h : List Event) (image : List ℕ) : Type 0 where
  pub one_form : image ≡ lock_image (locks_after n h)
  pub tells : (e : Event) (out : List ℕ) → length out ≡ 36
      → (event_call image e out).answer ≡ lock_answer (number n (accepted_events n h) e) 0 (b2n (live n (e ∷ h)))
  pub no_room : (e : Event) (out : List ℕ) → length out ≢ 36 → event_call image e out ≡ lock_called (lock_answer 9 0 0) out
  pub joystick : joystick_call image ≡ lock_answer 0 0 (b2n (live n h))

-- of every image that a caller holds after a history
abbrev pub ImagesByHistory : Type 0
ImagesByHistory = (n : ℕ) (h : List Event) (image : List ℕ) → HeldLock n h image → Answers n h image
