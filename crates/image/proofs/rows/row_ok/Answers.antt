-- One comparison tests kind, number and row.
use Rattle.std.proofs.Common.{arith, pow_mono}
use Rattle.image.proofs.RowLaws.{row-by-gap}
use Rattle.image.proofs.rows.row_ok.Goals as goal

pub overflow_add-power : goal.overflow_add-power
overflow_add-power c =
    omega (arith, c.power.ensures, pow_mono {i = c.args.n} {j = 16} c.requires.0)

pub returns : goal.returns
returns c =
    row-by-gap _ _ _ c.requires.0 c.requires.1 (omega arith) c.gap.ensures c.bit_at.ensures c.power.ensures c.pick.ensures
