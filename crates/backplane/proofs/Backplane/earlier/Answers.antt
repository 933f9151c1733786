-- Rule 1 says which of the two is meant.
use Rattle.std.proofs.Common.{sym, ◌∙◌}
use Rattle.words.proofs.Truth.{cond-true, cond-false}
use Rattle.backplane.specs.Play.{earlier}
use Rattle.backplane.proofs.Backplane.earlier.Goals as goal

pub returns-then-is_skewed : goal.returns-then-is_skewed
unfolding Rattle.backplane.specs.Play.earlier
returns-then-is_skewed c = sym (cond-true _ _ (sym c.is_skewed.ensures ∙ c.if-is_skewed.true))

pub returns-else-is_skewed : goal.returns-else-is_skewed
unfolding Rattle.backplane.specs.Play.earlier
returns-else-is_skewed c = sym (cond-false _ _ (sym c.is_skewed.ensures ∙ c.if-is_skewed.false))
