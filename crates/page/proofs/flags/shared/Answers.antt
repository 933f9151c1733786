-- A conjunction that is not 0 has a set bit.
use native.Mathlib.Omega.{arith}
use Rattle.page.proofs.FlagLaws.{and-shared}
use Rattle.page.proofs.flags.shared.Goals as goal

pub returns : goal.returns
returns c = and-shared c.args.u c.args.v (omega arith) (omega arith)
