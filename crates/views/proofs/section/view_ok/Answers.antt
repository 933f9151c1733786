-- The test of the definition.
use mathlib.Core.Path.{ap}
use mathlib.Core.Bool.{Bool, ◌||◌}
use lib.Dec.{eqb}
use Rattle.views.specs.Section.{view_ok}
use Rattle.views.proofs.section.view_ok.Goals as goal

pub returns : goal.returns
unfolding view_ok
returns c = ap (λ (b : Bool). eqb c.args.w 0 || b) c.view_heard.ensures
