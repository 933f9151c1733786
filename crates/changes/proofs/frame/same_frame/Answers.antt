-- The tests as they are joined.
use Rattle.changes.proofs.PendingLaws.{frame-by}
use Rattle.changes.proofs.frame.same_frame.Goals as goal

pub returns : goal.returns
returns c =
    let a = c.args in
    frame-by a.setup a.new c.fades.ensures
    c.fades-2.ensures c.same_places-places.ensures
