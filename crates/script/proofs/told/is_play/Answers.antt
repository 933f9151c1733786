-- The code and the definition make the same two comparisons.
use Rattle.script.specs.Words.{is_play}
use Rattle.script.proofs.told.is_play.Goals as goal

pub returns : goal.returns
unfolding is_play
returns c = rw c.is.ensures
