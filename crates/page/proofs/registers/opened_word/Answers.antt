-- Word 0 is the full health vector, word 1 the view.
use Rattle.page.specs.Page.{opened_word}
use Rattle.page.proofs.registers.opened_word.Goals as goal

pub returns : goal.returns
unfolding opened_word
returns c = cc
