-- The fields of the definition.
use mathlib.Core.Path.{refl}
use Rattle.views.specs.Views.{no_views}
use Rattle.views.proofs.after.no_views.Goals as goal

pub returns : goal.returns
unfolding no_views
returns c = refl
