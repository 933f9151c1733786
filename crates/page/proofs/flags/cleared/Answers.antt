-- The complement has every bit that v has not.
use native.Mathlib.Omega.{arith}
use Rattle.page.proofs.FlagLaws.{and_cleared}
use Rattle.page.proofs.flags.cleared.Goals as goal

pub returns : goal.returns
returns c = and_cleared c.args.u c.args.v (omega arith) (omega arith)
