-- What an event does to the axis that it names. (document 02, E2)
use Rattle.std.specs.Prelude.{ℕ, Result, Ok, Err, ◌+◌, ◌-◌, Bool, true, false, cond, not, ◌&&◌, ◌||◌, eqb, leb}
use Rattle.words.specs.Bits.{bit}
use Rattle.words.specs.Refusal.{code}
use Rattle.words.specs.declared.Number.{Number}
use Rattle.scanlock.specs.declared.Axis.{Axis}

-- an axis by its fields; holder 0 is nobody
abbrev pub axis : ℕ → ℕ → Bool → Bool → Axis
axis holder depth moving stopping = record { holder = holder; depth = depth; moving = moving; stopping = stopping }

-- what an axis answers to a begin, an end or a start: 0 and the axis after it, or the number of the refusal and the axis as it was
pub record AxisAnswer : Type 0 where
  pub number : ℕ
  pub axis : Axis

-- such an answer by its fields
abbrev pub axis_answer : ℕ → Axis → AxisAnswer
axis_answer number x = record { number = number; axis = x }

-- what code answers of an axis that was x, a result, as such an answer
abbrev pub axis_told : Axis → Result Axis Number → AxisAnswer
axis_told x (Ok next) = axis_answer 0 next
axis_told x (Err number) = axis_answer (code number) x

-- held by nobody, at rest
abbrev pub free : Axis
free = axis 0 0 false false

-- a module is in a view; there is no module 0
unfoldable pub present : ℕ → ℕ → Bool
present view by = leb 1 by && bit view (by - 1)

-- there are axes 1..8
unfoldable pub on_axis : ℕ → Bool
on_axis a = leb 1 a && leb a 8

-- 20: held by another, or stopping
unfoldable pub barred : Axis → ℕ → Bool
barred x by = (not (eqb x.holder 0) && not (eqb x.holder by)) || x.stopping

-- one lock more
unfoldable pub deeper : Axis → ℕ → Axis
deeper x by = axis by (x.depth + 1) x.moving x.stopping

-- a begin: 20, then 21 for a ninth depth
unfoldable pub begun_of : Axis → ℕ → AxisAnswer
begun_of x by = cond (barred x by) (axis_answer 20 x) (cond (leb 8 x.depth) (axis_answer 21 x) (axis_answer 0 (deeper x by)))

-- one lock less: an inner end restores the outer lock, the outermost leaves the axis to nobody; the move goes on
unfoldable pub shallower : Axis → Axis
shallower x = axis (cond (eqb x.depth 1) 0 x.holder) (x.depth - 1) x.moving x.stopping

-- an end: 20, then 21 without a begin
unfoldable pub ended_of : Axis → ℕ → AxisAnswer
ended_of x by = cond (barred x by) (axis_answer 20 x) (cond (eqb x.depth 0) (axis_answer 21 x) (axis_answer 0 (shallower x)))

-- a move is unfinished from now on; a start during one joins it
unfoldable pub moved : Axis → Axis
moved x = axis x.holder x.depth true x.stopping

-- a start: 20, then 21 without a begin
unfoldable pub started_of : Axis → ℕ → AxisAnswer
started_of x by = cond (barred x by) (axis_answer 20 x) (cond (eqb x.depth 0) (axis_answer 21 x) (axis_answer 0 (moved x)))

-- an abort during an unfinished move makes the axis stopping
unfoldable pub aborted_of : Axis → Axis
aborted_of x = axis x.holder x.depth x.moving (x.stopping || x.moving)

-- a finish report ends the move, but changes nothing on a stopping axis
unfoldable pub finished_of : Axis → Axis
finished_of x = axis x.holder x.depth (x.moving && x.stopping) x.stopping

-- a stop report ends the move and every depth of a stopping axis, and changes nothing on another
unfoldable pub stopped_of : Axis → Axis
stopped_of x = cond x.stopping free x

-- a holder that leaves the view loses its locks; neither the move nor the stopping ends
unfoldable pub lost_of : ℕ → Axis → Axis
lost_of view x = cond (present view x.holder) x (axis 0 0 x.moving x.stopping)

-- nobody holds the axis, and it is not stopping
unfoldable pub idle_axis : Axis → Bool
idle_axis x = eqb x.depth 0 && not x.stopping
