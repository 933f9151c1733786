-- The marks are below the power, and the entries of the two arrays are small: the same three tests.
use Rattle.setup.specs.Check.{setup_roomy}
use Rattle.setup.proofs.fields.roomy.Goals as goal

pub returns : goal.returns
unfolding setup_roomy
returns c = rw (c.bounded-2.ensures, c.bounded.ensures, c.power.ensures)
