-- The code and the definition make the same tests; 0.0 and 1,000,000.0 by their bits.
use Rattle.doubles.proofs.Rounding.{zero_bits, million-bits}
use Rattle.setup.specs.Limits.{limit_fits}
use Rattle.setup.proofs.bounds.limit_fits.Goals as goal

pub returns : goal.returns
unfolding limit_fits
returns c = rw (c.is_non_negative.ensures, zero_bits, million-bits)
