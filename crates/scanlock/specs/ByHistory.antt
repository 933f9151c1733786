-- The scan lock's state shows what its history leaves, after every history; so does the joystick. Proved in proofs/ByHistory.antt.
use Rattle.std.specs.Prelude.{ℕ, ◌≤◌, ◌≡◌, List, [], ◌∷◌}
use Rattle.scanlock.specs.Axis.{axis}
use Rattle.scanlock.specs.Locks.{fresh_locks, axis_at, event_of, joystick_of}
use Rattle.scanlock.specs.History.{depth, holder, unfinished, stopping, latest_view, number, accepted_events, live}
use Rattle.scanlock.specs.declared.Locks.{Locks}
use Rattle.scanlock.specs.declared.Event.{Event}

-- the locks of n modules after a history: opened, then told every event in turn
unfoldable pub locks_after : ℕ → List Event → Locks
locks_after n [] = fresh_locks n
locks_after n (e ∷ h) = (event_of (locks_after n h) e).locks

-- the state after a history h of n modules shows what the history leaves
pub record Shown (n : ℕ) (h : List Event) : Type 0 where
  -- the answer to one event more
  pub answers : (e : Event) → (event_of (locks_after n h) e).number ≡ number n (accepted_events n h) e
  pub view : (locks_after n h).view ≡ latest_view n (accepted_events n h)
  -- of each axis its holder, its depth, whether a move is unfinished, and whether it is stopping
  pub each : (a : ℕ) → 1 ≤ a → a ≤ 8
      → axis_at (locks_after n h) a
      ≡ axis (holder a (accepted_events n h)) (depth a (accepted_events n h)) (unfinished a (accepted_events n h)) (stopping a (accepted_events n h))
  pub joystick : joystick_of (locks_after n h) ≡ live n h

-- after every history, of any number of modules
abbrev pub ByHistory : Type 0
ByHistory = (n : ℕ) (h : List Event) → Shown n h
