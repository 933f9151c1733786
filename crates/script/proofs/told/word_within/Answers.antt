-- Each branch is the side of the choice that its test names.
use mathlib.Core.Path.{sym, ◌∙◌}
use borrow.Author.Tests.{lt-ltb, le-ltb}
use Rattle.words.proofs.Truth.{cond-true, cond-false}
use Rattle.script.proofs.told.word_within.Goals as goal

pub returns-then-i-s : goal.returns-then-i-s
returns-then-i-s c = c.word_at.ensures ∙ sym (cond-true _ _ (lt-ltb _ _ c.if-i-s.true))

pub returns-else-i-s : goal.returns-else-i-s
returns-else-i-s c = sym (cond-false _ _ (le-ltb _ _ c.if-i-s.false))
