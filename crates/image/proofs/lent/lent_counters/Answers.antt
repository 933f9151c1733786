-- By the form; a literal of zeros is the array of zeros.
use Rattle.doubles.proofs.Rounding.{zero_bits}
use Rattle.image.specs.Part.{lent_counters}
use Rattle.image.proofs.lent.lent_counters.Goals as goal

pub returns-then-fades : goal.returns-then-fades
unfolding lent_counters
returns-then-fades c = rw (c.if-fades.true, c.joined-score.ensures)

pub returns : goal.returns
unfolding lent_counters
returns c = rw (c.if-fades.false, zero_bits)
