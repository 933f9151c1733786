-- The first n entries, as lists.
use Rattle.std.proofs.Common.{arith}
use Rattle.changes.proofs.PendingLaws.{same-entries}
use Rattle.changes.proofs.frame.same_places.Goals as goal

pub returns : goal.returns
returns c =
    let a = c.args in
    same-entries a.n a.a.now a.b.now (omega (arith, c.told-a)) (omega (arith, c.told-b)) c.eq.ensures
