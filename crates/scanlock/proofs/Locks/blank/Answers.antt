-- Eight free axes.
use mathlib.Core.Path.{refl}
use Rattle.scanlock.specs.Locks.{blank_locks}
use Rattle.scanlock.proofs.Locks.blank.Goals as goal

pub returns : goal.returns
unfolding blank_locks
returns c = refl
