-- The code and the definition make the same tests; 1.0 by its bits.
use Rattle.doubles.proofs.Rounding.{one-bits}
use Rattle.setup.specs.Limits.{factor_fits}
use Rattle.setup.proofs.bounds.factor_fits.Goals as goal

pub returns : goal.returns
unfolding factor_fits
returns c = rw (c.is_non_negative.ensures, one-bits)
