-- The code and the definition make the same tests.
use Rattle.setup.specs.Check.{mark_fits}
use Rattle.std.proofs.Common.{rules}
use Rattle.setup.proofs.word.mark_fits.Goals as goal

pub returns : goal.returns
unfolding mark_fits
returns c = search rules
