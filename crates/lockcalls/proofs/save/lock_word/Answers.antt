-- The head first, then the axes.
use borrow.Author.Tests.{eq-eqb, ne_eqb}
use Rattle.lockcalls.specs.LockImage.{lock_word}
use Rattle.scanlock.proofs.LockEventLaws.{yes, no}
use Rattle.lockcalls.proofs.save.lock_word.Goals as goal

pub returns-then-i-eq0 : goal.returns-then-i-eq0
unfolding lock_word
returns-then-i-eq0 c = yes _ (eq-eqb _ 0 c.if-i-eq0.true) c.head_word.ensures

pub returns : goal.returns
unfolding lock_word
returns c = no _ (ne_eqb _ 0 c.if-i-eq0.false) c.axis_word.ensures
