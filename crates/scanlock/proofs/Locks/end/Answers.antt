-- Nothing but 19 stands between the event and the axis that it names.
use Rattle.std.proofs.Common.{rules}
use Rattle.scanlock.specs.Axis.{ended_of}
use Rattle.scanlock.specs.Locks.{axis_at, admits, end_of}
use Rattle.scanlock.proofs.Locks.end.Goals as goal

pub returns : goal.returns
unfolding end_of
returns c =
    let a = c.args in
    c.told.ensures (admits a.self a.by a.axis) a.axis (ended_of (axis_at a.self a.axis) a.by) c.index_for.ensures.is (λ r p. search rules)
