-- Full views, or none.
use mathlib.Core.Path.{ap, sym, ◌∙◌}
use mathlib.Core.Bool.{Bool}
use Rattle.views.specs.Views.{fresh_views}
use Rattle.views.proofs.after.fresh_views.Goals as goal

pub returns-then-partitionable : goal.returns-then-partitionable
unfolding fresh_views
returns-then-partitionable c = c.full_views.ensures ∙ ap (λ (b : Bool). fresh_views b c.args.n) (sym c.if-partitionable.true)

pub returns : goal.returns
unfolding fresh_views
returns c = c.no_views.ensures ∙ ap (λ (b : Bool). fresh_views b c.args.n) (sym c.if-partitionable.false)
