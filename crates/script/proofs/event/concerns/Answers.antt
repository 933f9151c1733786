-- The sender and the bit are those of the definition.
use Rattle.script.specs.Events.{concerns}
use Rattle.script.proofs.event.concerns.Goals as goal

pub returns : goal.returns
unfolding concerns
returns c = rw (c.bit_at.ensures, c.field.ensures)
