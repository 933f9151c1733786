-- The tests as they are joined, by whether something is pending.
use Rattle.changes.proofs.PendingLaws.{roomy-by}
use Rattle.changes.proofs.change.pending_roomy.Goals as goal

pub returns : goal.returns
returns c =
    let a = c.args in
    roomy-by a.n a.c c.pick-room.ensures c.pick-many.ensures c.bounded.ensures
