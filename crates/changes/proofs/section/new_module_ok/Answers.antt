-- The tests of the definition.
use mathlib.Core.Path.{refl}
use Rattle.changes.specs.Words.{new_module_ok}
use Rattle.changes.proofs.section.new_module_ok.Goals as goal

pub returns : goal.returns
unfolding new_module_ok
returns c = refl
