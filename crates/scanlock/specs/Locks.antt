-- What the scan lock makes of each event, and whether the joystick is live. (document 02, E2)
-- specs/History.antt says the same of a whole history, without a state.
use Rattle.std.specs.Prelude.{ℕ, Option, Some, None, Result, Ok, Err, ◌-◌, ◌^◌, Bool, cond, ◌&&◌, List, eqb, leb, ltb, get_or, set, replicate}
use Rattle.words.specs.Bits.{full}
use Rattle.words.specs.Count.{all}
use Rattle.words.specs.Table.{updated}
use Rattle.words.specs.Refusal.{code}
use Rattle.words.specs.declared.Number.{Number}
use Rattle.scanlock.specs.Axis.{AxisAnswer, free, present, on_axis, begun_of, ended_of, started_of, aborted_of, finished_of, stopped_of, lost_of, idle_axis}
use Rattle.scanlock.specs.declared.Axis.{Axis}
use Rattle.scanlock.specs.declared.Locks.{Locks}
use Rattle.scanlock.specs.declared.Event.{Event}
use Rattle.scanlock.specs.declared.Event.TheVariants.{View, Begin, End, Start, Abort, Finished, Stopped}

-- the state by its fields; the axis a stands at a - 1
abbrev pub locks : ℕ → ℕ → List Axis → Locks
locks n view axes = record { n = n; view = view; axes = axes }

-- what an opening or an event answers: 0 or the number by which it is refused, and the locks after it
pub record EventAnswer : Type 0 where
  pub number : ℕ
  pub locks : Locks

-- such an answer by its fields
abbrev pub event_answer : ℕ → Locks → EventAnswer
event_answer number st = record { number = number; locks = st }

-- what code answers, a result, as such an answer: a refusal leaves the locks st, which are those before it
abbrev pub event_told : Locks → Result Locks Number → EventAnswer
event_told st (Ok next) = event_answer 0 next
event_told st (Err number) = event_answer (code number) st

-- ---- opening: n modules, a full view, no lock; 2 for an n that no backplane has

-- a fresh scan lock
unfoldable pub fresh_locks : ℕ → Locks
fresh_locks n = locks n (full n) (replicate 8 free)

-- what a refused opening or reading holds: no modules, so that every module is out of range
unfoldable pub blank_locks : Locks
blank_locks = locks 0 0 (replicate 8 free)

-- what an opening answers
unfoldable pub open_locks : ℕ → EventAnswer
open_locks n = cond (leb 2 n && leb n 16) (event_answer 0 (fresh_locks n)) (event_answer 2 blank_locks)

-- ---- the axis that an event names

-- axis a of a state, 1..8
abbrev pub axis_at : Locks → ℕ → Axis
axis_at st a = get_or st.axes (a - 1) free

-- the state with another axis a
abbrev pub with_axis : Locks → ℕ → Axis → Locks
with_axis st a x = locks st.n st.view (set st.axes (a - 1) x)

-- not 19: there is such an axis and such a module, and the module is in the view
unfoldable pub admits : Locks → ℕ → ℕ → Bool
admits st by a = on_axis a && leb by st.n && present st.view by

-- where axis a stands, if the event may name it
abbrev pub index_of : Bool → ℕ → Option ℕ
index_of may a = cond may (Some (a - 1)) None

-- ---- the answers

-- a refused call changes nothing
abbrev pub refused_of : Locks → ℕ → EventAnswer
refused_of st number = event_answer number st

-- accepted: axis a is x, the others are as they were
abbrev pub put_of : Locks → ℕ → Axis → EventAnswer
put_of st a x = event_answer 0 (with_axis st a x)

-- 20 and 21 by the axis
unfoldable pub settled_of : Locks → ℕ → AxisAnswer → EventAnswer
settled_of st a t = cond (eqb t.number 0) (put_of st a t.axis) (refused_of st t.number)

-- a holder that leaves the view loses all its locks
unfoldable pub seen_axes : ℕ → List Axis → List Axis
seen_axes view axes = updated 8 (λ i. lost_of view (get_or axes i free)) axes

-- a view with a bit at N or above names a module out of range
unfoldable pub set_view_of : Locks → ℕ → EventAnswer
set_view_of st view =
    cond (ltb view (2 ^ st.n)) (event_answer 0 (locks st.n view (seen_axes view st.axes))) (refused_of st 19)

-- a module begins a lock: 19, then 20 and 21 by the axis
unfoldable pub begin_of : Locks → ℕ → ℕ → EventAnswer
begin_of st by a = cond (admits st by a) (settled_of st a (begun_of (axis_at st a) by)) (refused_of st 19)

-- a module ends its innermost lock: 19, then 20 and 21
unfoldable pub end_of : Locks → ℕ → ℕ → EventAnswer
end_of st by a = cond (admits st by a) (settled_of st a (ended_of (axis_at st a) by)) (refused_of st 19)

-- the holder starts a move: 19, then 20 and 21
unfoldable pub start_move_of : Locks → ℕ → ℕ → EventAnswer
start_move_of st by a = cond (admits st by a) (settled_of st a (started_of (axis_at st a) by)) (refused_of st 19)

-- any present module aborts: 19 alone
unfoldable pub abort_of : Locks → ℕ → ℕ → EventAnswer
abort_of st by a = cond (admits st by a) (put_of st a (aborted_of (axis_at st a))) (refused_of st 19)

-- the axis reports its move finished; reports carry an axis only, and are refused by 19 alone
unfoldable pub finished_by : Locks → ℕ → EventAnswer
finished_by st a = cond (on_axis a) (put_of st a (finished_of (axis_at st a))) (refused_of st 19)

-- the axis reports that it has stopped
unfoldable pub stopped_by : Locks → ℕ → EventAnswer
stopped_by st a = cond (on_axis a) (put_of st a (stopped_of (axis_at st a))) (refused_of st 19)

-- any event
unfoldable pub event_of : Locks → Event → EventAnswer
event_of st (View view) = set_view_of st view
event_of st (Begin by a) = begin_of st by a
event_of st (End by a) = end_of st by a
event_of st (Start by a) = start_move_of st by a
event_of st (Abort by a) = abort_of st by a
event_of st (Finished a) = finished_by st a
event_of st (Stopped a) = stopped_by st a

-- ---- the joystick: no axis is held, none is stopping

-- live exactly while every axis is idle
unfoldable pub joystick_of : Locks → Bool
joystick_of st = all 8 (λ i. idle_axis (get_or st.axes i free))
