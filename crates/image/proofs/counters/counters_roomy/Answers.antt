-- By the form, each section in its turn.
use Rattle.image.specs.Counters.{counters_roomy}
use Rattle.image.proofs.counters.counters_roomy.Goals as goal

pub returns-then-fades : goal.returns-then-fades
unfolding counters_roomy
returns-then-fades c = rw (c.if-fades.true, c.bounded.ensures, c.bounded-then-fades.ensures, c.clear_doubles.ensures, c.bounded-then-fades-2.ensures)

pub returns : goal.returns
unfolding counters_roomy
returns c = rw (c.if-fades.false, c.bounded-2.ensures, c.bounded-3.ensures, c.bounded-4.ensures, c.clear_doubles-2.ensures)
