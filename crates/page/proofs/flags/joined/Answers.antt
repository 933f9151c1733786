-- A disjunction, bit by bit.
use native.Mathlib.Omega.{arith}
use Rattle.page.proofs.FlagLaws.{or-joined}
use Rattle.page.proofs.flags.joined.Goals as goal

pub returns : goal.returns
returns c = or-joined c.args.u c.args.v (omega arith) (omega arith)
