-- The bounds of the sender and of the mask are those of the definition.
use Rattle.script.specs.Words.{event_ok}
use Rattle.script.proofs.check.event_ok.Goals as goal

pub returns : goal.returns
unfolding event_ok
returns c = rw (c.power.ensures, c.field-sender.ensures)
