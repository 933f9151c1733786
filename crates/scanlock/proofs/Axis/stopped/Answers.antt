-- By whether the axis is stopping.
use mathlib.Core.Path.{refl}
use Rattle.scanlock.specs.Axis.{stopped_of}
use Rattle.scanlock.proofs.LockEventLaws.{yes, no}
use Rattle.scanlock.proofs.Axis.stopped.Goals as goal

pub returns-then-self : goal.returns-then-self
unfolding stopped_of
returns-then-self c = yes _ c.if-self.true refl

pub returns-else-self : goal.returns-else-self
unfolding stopped_of
returns-else-self c = no _ c.if-self.false refl
