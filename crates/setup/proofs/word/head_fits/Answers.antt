-- The code and the definition make the same comparisons.
use Rattle.setup.specs.Check.{head_fits}
use Rattle.std.proofs.Common.{rules}
use Rattle.setup.proofs.word.head_fits.Goals as goal

pub returns : goal.returns
unfolding head_fits
returns c = search rules
