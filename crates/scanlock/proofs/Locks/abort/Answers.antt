-- Nothing but 19 stands between the event and the axis that it names.
use Rattle.std.proofs.Common.{rules}
use Rattle.scanlock.specs.Axis.{aborted_of, axis_answer}
use Rattle.scanlock.specs.Locks.{settled_of, axis_at, admits, abort_of}
use Rattle.scanlock.proofs.Locks.abort.Goals as goal

pub returns : goal.returns
unfolding abort_of settled_of
returns c =
    let a = c.args in
    c.told.ensures (admits a.self a.by a.axis) a.axis (axis_answer 0 (aborted_of (axis_at a.self a.axis))) c.index_for.ensures.is (λ r p. search rules)
