-- The mark and the read place are taken out of the word and handed on.
use Rattle.setup.specs.Check.{mark_ok}
use Rattle.setup.proofs.word.mark_ok.Goals as goal

pub returns : goal.returns
unfolding mark_ok
returns c = rw (c.mark_fits.ensures, c.field.ensures, c.bit_at.ensures)
