-- Rule 1 says which of the two views is meant.
use Rattle.std.proofs.Common.{sym, ◌∙◌}
use Rattle.words.proofs.Truth.{cond-true, cond-false}
use Rattle.backplane.specs.Play.{counting_view}
use Rattle.backplane.proofs.Backplane.counting.Goals as goal

pub returns-then-is_skewed : goal.returns-then-is_skewed
unfolding counting_view
returns-then-is_skewed c = c.followers_view.ensures ∙ sym (cond-true _ _ (sym c.is_skewed.ensures ∙ c.if-is_skewed.true))

pub returns-else-is_skewed : goal.returns-else-is_skewed
unfolding counting_view
returns-else-is_skewed c = c.followers_view-else-is_skewed.ensures ∙ sym (cond-false _ _ (sym c.is_skewed.ensures ∙ c.if-is_skewed.false))
