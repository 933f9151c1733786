-- 6 where the setup fades, else 3.
use Rattle.std.proofs.Common.{sym, ap, arith}
use Rattle.setup.specs.Layout.{front_words}
use Rattle.setup.proofs.bounds.front_words.Goals as goal

pub returns-then-fades : goal.returns-then-fades
returns-then-fades c = (ap front_words (sym c.if-fades.true), omega arith, omega arith)

pub returns : goal.returns
returns c = (ap front_words (sym c.if-fades.false), omega arith, omega arith)
