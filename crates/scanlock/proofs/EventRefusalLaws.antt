-- A refused event leaves the locks as they were.
use Prim.Native.Nat.{ℕ, ◌^◌}
use mathlib.Core.Path.{◌≡◌, refl}
use mathlib.Core.Bool.{Bool, true, false, cond}
use lib.Dec.{eqb, leb, ltb}
use Rattle.scanlock.specs.Axis.{on_axis, axis_answer, barred, begun_of, ended_of, started_of, deeper, shallower, moved}
use Rattle.scanlock.specs.Locks.{event_answer, axis_at, admits, refused_of, settled_of, set_view_of, begin_of, end_of, start_move_of, abort_of, finished_by, stopped_by, event_of}
use Rattle.scanlock.specs.declared.Axis.{Axis}
use Rattle.scanlock.specs.declared.Locks.{Locks}
use Rattle.scanlock.specs.declared.Event.{Event}
use Rattle.scanlock.specs.declared.Event.TheVariants.{View, Begin, End, Start, Abort, Finished, Stopped}

-- one test before the change
one : (st s : Locks) (t : Bool) (m : ℕ) → ((cond t (event_answer 0 s) (refused_of st m)).number ≡ 0 → ⊥)
    → (cond t (event_answer 0 s) (refused_of st m)).locks ≡ st
one st s true m h = absurd (h refl)
one st s false m h = refl

-- three tests before it
three : (st : Locks) (b : ℕ) (x y : Axis) (p q r : Bool)
    → ((cond p (settled_of st b (cond q (axis_answer 20 x) (cond r (axis_answer 21 x) (axis_answer 0 y)))) (refused_of st 19)).number ≡ 0 → ⊥)
    → (cond p (settled_of st b (cond q (axis_answer 20 x) (cond r (axis_answer 21 x) (axis_answer 0 y)))) (refused_of st 19)).locks ≡ st
unfolding settled_of
three st b x y true true r h = refl
three st b x y true false true h = refl
three st b x y true false false h = absurd (h refl)
three st b x y false q r h = refl

pub refused-same : (st : Locks) (e : Event) → ((event_of st e).number ≡ 0 → ⊥) → (event_of st e).locks ≡ st
unfolding event_of set_view_of begin_of begun_of end_of ended_of start_move_of started_of abort_of finished_by stopped_by
refused-same st (View view) h = one st _ (ltb view (2 ^ st.n)) 19 h
refused-same st (Begin by b) h =
    three st b (axis_at st b) (deeper (axis_at st b) by) (admits st by b) (barred (axis_at st b) by) (leb 8 (axis_at st b).depth) h
refused-same st (End by b) h =
    three st b (axis_at st b) (shallower (axis_at st b)) (admits st by b) (barred (axis_at st b) by) (eqb (axis_at st b).depth 0) h
refused-same st (Start by b) h =
    three st b (axis_at st b) (moved (axis_at st b)) (admits st by b) (barred (axis_at st b) by) (eqb (axis_at st b).depth 0) h
refused-same st (Abort by b) h = one st _ (admits st by b) 19 h
refused-same st (Finished b) h = one st _ (on_axis b) 19 h
refused-same st (Stopped b) h = one st _ (on_axis b) 19 h
