use Rattle.std.proofs.Common.{rules}
use Rattle.words.proofs.array.filled.Goals as goal

pub returns : goal.returns
returns c = c.from_fn.ensures _ (λ j w l p. search rules)
