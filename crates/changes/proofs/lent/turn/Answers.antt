-- The criticalities are read, then the counters adjusted to them.
use native.Mathlib.Omega.{arith}
use Rattle.changes.proofs.AdjustedArrays.{read_small}
use Rattle.changes.proofs.lent.turn.Goals as goal

pub adjust-requires : goal.adjust-requires
adjust-requires c = (
  c.requires.0,
  omega arith,
  read_small c.args.n _ c.requires.0 c.load_criticality.ensures,
  c.requires.4,
  c.requires.5,
)
