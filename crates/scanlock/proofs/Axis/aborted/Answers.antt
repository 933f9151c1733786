-- The code and the definition are the same.
use mathlib.Core.Path.{refl}
use Rattle.scanlock.specs.Axis.{aborted_of}
use Rattle.scanlock.proofs.Axis.aborted.Goals as goal

pub returns : goal.returns
unfolding aborted_of
returns c = refl
