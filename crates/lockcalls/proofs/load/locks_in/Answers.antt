-- The fields of the head, and the axes.
use Rattle.lockcalls.proofs.LockCallLaws.{locks-made}
use Rattle.lockcalls.proofs.load.locks_in.Goals as goal

pub returns : goal.returns
returns c = locks-made _ c.word_at-head.ensures c.axes_in.ensures
