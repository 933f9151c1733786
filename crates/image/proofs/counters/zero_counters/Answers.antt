-- A literal of zeros is the array of zeros.
use Rattle.doubles.proofs.Rounding.{zero_bits}
use Rattle.image.proofs.counters.zero_counters.Goals as goal

pub returns : goal.returns
returns c = rw zero_bits
