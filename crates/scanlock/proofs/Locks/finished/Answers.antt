-- Nothing but 19 stands between the event and the axis that it names.
use Rattle.std.proofs.Common.{rules}
use Rattle.scanlock.specs.Axis.{finished_of, axis_answer, on_axis}
use Rattle.scanlock.specs.Locks.{settled_of, axis_at, finished_by}
use Rattle.scanlock.proofs.Locks.finished.Goals as goal

pub returns : goal.returns
unfolding finished_by settled_of
returns c =
    let a = c.args in
    c.told.ensures (on_axis a.axis) a.axis (axis_answer 0 (finished_of (axis_at a.self a.axis))) c.index.ensures.is (λ r p. search rules)
