-- The code and the definition make the same two comparisons; both bounds fit a word.
use Rattle.setup.specs.Check.{limit_ok}
use Rattle.std.proofs.Common.{rules}
use Rattle.setup.proofs.word.limit_ok.Goals as goal

pub returns : goal.returns
unfolding limit_ok
returns c = search rules
