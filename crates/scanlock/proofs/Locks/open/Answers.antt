-- By the number of modules.
use mathlib.Core.Path.{refl, ap}
use Rattle.scanlock.specs.Locks.{event_answer, open_locks}
use Rattle.scanlock.proofs.LockEventLaws.{yes, no, in_bounds}
use Rattle.scanlock.proofs.Locks.open.Goals as goal

pub fresh-requires : goal.fresh-requires
fresh-requires c = (in_bounds 2 16 _ c.if-n.true).1

pub returns-then-n : goal.returns-then-n
unfolding open_locks
returns-then-n c = yes _ c.if-n.true (ap (event_answer 0) c.fresh.ensures)

pub returns : goal.returns
unfolding open_locks
returns c = no _ c.if-n.false refl
