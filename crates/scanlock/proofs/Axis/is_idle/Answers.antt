-- The code and the definition are the same.
use mathlib.Core.Path.{refl}
use Rattle.scanlock.specs.Axis.{idle_axis}
use Rattle.scanlock.proofs.Axis.is_idle.Goals as goal

pub returns : goal.returns
unfolding idle_axis
returns c = refl
