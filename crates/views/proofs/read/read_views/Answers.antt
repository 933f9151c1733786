use Rattle.std.proofs.Common.{arith}
use Rattle.words.specs.Array.{array}
use Rattle.words.proofs.ArrayLaws.{array-step, array-end}
use Rattle.views.specs.ViewWord.{views_read}
use Rattle.views.proofs.ViewWordLaws.{entry-by}
use Rattle.views.proofs.read.read_views.Goals as goal

pub loop-j-init : goal.loop-j-init
unfolding array
loop-j-init c = c.requires.2

pub loop-j-preserved : goal.loop-j-preserved
loop-j-preserved c =
    array-step _ _ c.loop-j.invariant (entry-by _ c.bit_at.ensures c.word_at-w.ensures c.view_heard.ensures c.pick.ensures)

pub returns : goal.returns
unfolding views_read
returns c = array-end _ (omega arith) c.loop-j.invariant
