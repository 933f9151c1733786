-- By the contract of the view, and that of taking one.
use mathlib.Core.Path.{ap, ◌∙◌}
use Rattle.scanlock.specs.Locks.{set_view_of}
use Rattle.scanlock.proofs.Locks.after_step.Goals as goal

pub returns : goal.returns
returns c = c.set_view.ensures ∙ ap (set_view_of c.args.self) c.shown.ensures
