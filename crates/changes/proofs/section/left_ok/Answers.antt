-- The tests of the definition.
use mathlib.Core.Path.{refl}
use Rattle.changes.specs.Words.{left_ok}
use Rattle.changes.proofs.section.left_ok.Goals as goal

pub returns : goal.returns
unfolding left_ok
returns c = refl
