-- What an unfinished move and a stopping axis are, by which events lie where in a history: no state, no steps. (document 02, E2)
-- History.antt finds both by going through the events one by one (`motion`); that it finds these is `MotionByEvents`.
-- The newest event stands first: in since ++ (e ∷ before), the events `since` came after e. Proved in proofs/ByEvents.antt.
use Rattle.std.specs.Prelude.{ℕ, ◌≡◌, true, ◌↔◌, ◌⊎◌}
use mathlib.Core.List.{List, ◌∷◌, ◌++◌, Memᴰ}
use Rattle.scanlock.specs.History.{standing, unfinished, stopping, accepted_events}
use Rattle.scanlock.specs.ByHistory.{locks_after}
use Rattle.scanlock.specs.declared.Event.{Event}
use Rattle.scanlock.specs.declared.Event.TheVariants.{Start, Abort, Finished, Stopped}

-- ---- moves, by the events that were accepted

-- none of the events is e
abbrev pub No : Event → List Event → Type 0
No e events = Memᴰ e events → ⊥

-- A move of axis a is running: it was started, and since then it was neither reported finished nor aborted.
pub record Running (a : ℕ) (h : List Event) : Type 0 where
  pub by : ℕ
  pub since : List Event
  pub before : List Event
  pub started : h ≡ since ++ (Start by a ∷ before)
  pub no_finish : No (Finished a) since
  pub no_abort : (m : ℕ) → No (Abort m a) since

-- An abort on axis a came during such a move, and no stop report since.
pub record Aborted (a : ℕ) (Move : List Event → Type 0) (h : List Event) : Type 0 where
  pub by : ℕ
  pub since : List Event
  pub before : List Event
  pub aborted : h ≡ since ++ (Abort by a ∷ before)
  pub during : Move before
  pub no_stop : No (Stopped a) since

-- axis a is stopping
abbrev pub Stopping : ℕ → List Event → Type 0
Stopping a h = Aborted a (Running a) h

-- a move of axis a is unfinished: it is running, or it was aborted and the axis is stopping
abbrev pub Unfinished : ℕ → List Event → Type 0
Unfinished a h = Running a h ⊎ Stopping a h

-- An abort during any unfinished move makes the axis stopping; on a stopping axis it leaves it so.
abbrev pub AbortsStop : Type 0
AbortsStop = (a : ℕ) (h : List Event) → Stopping a h ↔ Aborted a (Unfinished a) h

-- ---- what History.antt finds is this

-- of axis a, by the accepted events t
pub record ByEvents (a : ℕ) (t : List Event) : Type 0 where
  pub stops : (stopping a t ≡ true) ↔ Stopping a t
  pub moves : (unfinished a t ≡ true) ↔ Unfinished a t
  -- The stop report of a stopping axis ends every depth: of the locks on it the history leaves those that were begun since.
  pub stop-ends : Stopping a t → (since : List Event) → standing a (since ++ (Stopped a ∷ t)) ≡ standing a since
  -- On an axis that is not stopping it ends none: the history leaves the locks that it leaves without it.
  pub stop-idle : (Stopping a t → ⊥) → (since : List Event) → standing a (since ++ (Stopped a ∷ t)) ≡ standing a (since ++ t)

-- after every history, of any number of modules, on every axis
abbrev pub MotionByEvents : Type 0
MotionByEvents = (n : ℕ) (h : List Event) (a : ℕ) → ByEvents a (accepted_events n h)

-- ---- what changes nothing, of the locks after a history h of n modules

pub record Unchanged (n : ℕ) (h : List Event) (a : ℕ) : Type 0 where
  -- on a stopping axis a finish report
  pub finish-stopping : Stopping a (accepted_events n h) → locks_after n (Finished a ∷ h) ≡ locks_after n h
  -- an abort or report with nothing to stop or finish
  pub abort-nothing : (Unfinished a (accepted_events n h) → ⊥) → (by : ℕ) → locks_after n (Abort by a ∷ h) ≡ locks_after n h
  pub finish-nothing : (Unfinished a (accepted_events n h) → ⊥) → locks_after n (Finished a ∷ h) ≡ locks_after n h
  -- a stop report on an axis that is not stopping
  pub stop-nothing : (Stopping a (accepted_events n h) → ⊥) → locks_after n (Stopped a ∷ h) ≡ locks_after n h

-- after every history, of any number of modules, on every axis
abbrev pub ChangesNothing : Type 0
ChangesNothing = (n : ℕ) (h : List Event) (a : ℕ) → Unchanged n h a
