-- Each branch is the side of the choice that its test names.
use mathlib.Core.Path.{sym, ◌∙◌}
use Rattle.words.proofs.Truth.{cond-true, cond-false}
use Rattle.script.specs.Cursor.{told_view_of}
use Rattle.script.proofs.play.told_view_of.Goals as goal

pub returns-then-partitionable_at : goal.returns-then-partitionable_at
unfolding told_view_of
returns-then-partitionable_at c = c.word_within.ensures ∙ sym (cond-true _ _ (sym c.partitionable_at.ensures ∙ c.if-partitionable_at.true))

pub returns-else-partitionable_at : goal.returns-else-partitionable_at
unfolding told_view_of
returns-else-partitionable_at c = sym (cond-false _ _ (sym c.partitionable_at.ensures ∙ c.if-partitionable_at.false))
