-- The code and the definition are the same.
use mathlib.Core.Path.{refl}
use Rattle.scanlock.specs.Axis.{finished_of}
use Rattle.scanlock.proofs.Axis.finished.Goals as goal

pub returns : goal.returns
unfolding finished_of
returns c = refl
