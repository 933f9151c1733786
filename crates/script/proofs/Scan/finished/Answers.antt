-- The three tests are those of the definition.
use Rattle.script.specs.Check.{finished}
use mathlib.Core.Path.{refl}
use Rattle.script.proofs.Scan.finished.Goals as goal

pub returns : goal.returns
unfolding finished
returns c = refl
