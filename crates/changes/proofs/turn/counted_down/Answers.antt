-- Two or more rounds left, or fewer.
use mathlib.Core.Path.{sym, ◌∙◌}
use borrow.Author.Tests.{le-leb, lt-leb}
use Rattle.words.proofs.Truth.{cond-true, cond-false}
use Rattle.changes.specs.Pending.{counted_down}
use Rattle.changes.proofs.turn.counted_down.Goals as goal

pub returns-then-c-ge2 : goal.returns-then-c-ge2
unfolding counted_down
returns-then-c-ge2 c = sym (cond-true _ _ (le-leb _ _ c.if-c-ge2.true))

pub returns : goal.returns
unfolding counted_down
returns c = c.nothing.ensures ∙ sym (cond-false _ _ (lt-leb _ _ c.if-c-ge2.false))
