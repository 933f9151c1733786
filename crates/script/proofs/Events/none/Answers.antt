-- The arrays are made as the definition has them.
use mathlib.Core.Path.{refl}
use Rattle.script.specs.Events.{none}
use Rattle.script.proofs.Events.none.Goals as goal

pub returns : goal.returns
unfolding none
returns c = refl
