-- The code and the definition are the same.
use mathlib.Core.Path.{refl}
use Rattle.scanlock.specs.Axis.{barred}
use Rattle.scanlock.proofs.Axis.barred.Goals as goal

pub returns : goal.returns
unfolding barred
returns c = refl
