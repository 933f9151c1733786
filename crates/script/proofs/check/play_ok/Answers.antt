-- The code and the definition make the same three comparisons.
use Rattle.script.specs.Words.{play_ok}
use Rattle.script.proofs.check.play_ok.Goals as goal

pub returns : goal.returns
unfolding play_ok
returns c = rw c.is.ensures
