-- By head bit 5.
use Rattle.presence.specs.Shown.{shown_view}
use Rattle.presence.proofs.State.shown.Goals as goal

pub returns : goal.returns
unfolding shown_view
returns c = c.pick.ensures
