-- Each branch is the side of the choice that its test names.
use Rattle.std.proofs.Common.{sym}
use Rattle.words.proofs.Truth.{cond-true, cond-false}
use Rattle.words.proofs.bits.pick.Goals as goal

pub returns-then-b : goal.returns-then-b
returns-then-b c = sym (cond-true _ _ c.if-b.true)

pub returns-else-b : goal.returns-else-b
returns-else-b c = sym (cond-false _ _ c.if-b.false)
