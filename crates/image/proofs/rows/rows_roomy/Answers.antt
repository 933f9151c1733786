-- The vector, then the rows.
use Rattle.image.specs.Rows.{rows_roomy}
use Rattle.image.proofs.rows.rows_roomy.Goals as goal

pub returns : goal.returns
unfolding rows_roomy
returns c = rw (c.bounded.ensures, c.power.ensures)
