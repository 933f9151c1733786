-- The top nine bits are compared with kind 4 and the number, and the two fields are handed on.
use Rattle.setup.specs.Check.{module_ok}
use Rattle.setup.proofs.word.module_ok.Goals as goal

pub returns : goal.returns
unfolding module_ok
returns c = rw (c.module_fits.ensures, c.field.ensures)
