-- The code and the definition make the same tests.
use Rattle.setup.specs.Check.{module_fits}
use Rattle.std.proofs.Common.{rules}
use Rattle.setup.proofs.word.module_fits.Goals as goal

pub returns : goal.returns
unfolding module_fits
returns c = search rules
