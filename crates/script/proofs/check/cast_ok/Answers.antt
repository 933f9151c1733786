-- The kind and the bound are those of the definition.
use Rattle.script.specs.Words.{cast_ok}
use Rattle.script.proofs.check.cast_ok.Goals as goal

pub returns : goal.returns
unfolding cast_ok
returns c = rw (c.is.ensures, c.power.ensures)
