-- The fields are those of the definition.
use Rattle.script.specs.Cursor.{start}
use Rattle.script.proofs.Cursor.start.Goals as goal

pub returns : goal.returns
unfolding start
returns c = cc
