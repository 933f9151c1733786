use Rattle.std.proofs.Common.{arith}
use Rattle.words.specs.Array.{array}
use Rattle.words.proofs.ArrayLaws.{array-step, array-end}
use Rattle.views.proofs.lent.load_view_words.Goals as goal

pub loop-j-init : goal.loop-j-init
unfolding array
loop-j-init c = c.requires.3

pub loop-j-preserved : goal.loop-j-preserved
loop-j-preserved c = array-step _ _ c.loop-j.invariant c.word_at.ensures

pub returns : goal.returns
returns c = array-end _ (omega arith) c.loop-j.invariant
