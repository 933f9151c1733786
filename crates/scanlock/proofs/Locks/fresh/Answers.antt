-- Eight free axes and a full view.
use Rattle.scanlock.proofs.LockEventLaws.{fresh-locks-made}
use Rattle.scanlock.proofs.Locks.fresh.Goals as goal

pub returns : goal.returns
returns c = fresh-locks-made _ c.full_of.ensures
