use Rattle.std.proofs.Common.{arith}
use Rattle.doubles.proofs.DoubleArrayLaws.{doubles-start, doubles-step, doubles-end}
use Rattle.image.proofs.lent.joined.Goals as goal

pub loop-j-init : goal.loop-j-init
loop-j-init c = (omega arith, doubles-start _)

pub loop-j-preserved : goal.loop-j-preserved
loop-j-preserved c = (omega arith, doubles-step _ _ c.loop-j.invariant.1 c.of_words.ensures)

pub returns : goal.returns
returns c = doubles-end _ (omega arith) c.loop-j.invariant.1
