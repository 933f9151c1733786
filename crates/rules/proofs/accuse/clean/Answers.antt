-- Two rows without bit j, cut to n bits, are equal exactly if they differ nowhere below n but at j.
use native.Mathlib.Omega.{arith}
use lib.Pow.{pow_pos}
use Rattle.rules.proofs.CompareLaws.{clean-by}
use Rattle.rules.proofs.accuse.clean.Goals as goal

pub nonzero_rem-result : goal.nonzero_rem-result
nonzero_rem-result c = omega (arith, c.power.ensures, pow_pos c.args.n)

pub nonzero_rem-result-2 : goal.nonzero_rem-result-2
nonzero_rem-result-2 c = omega (arith, c.power-2.ensures, pow_pos c.args.n)

pub returns : goal.returns
returns c =
    let a = c.args in
    clean-by a.n a.voters a.row a.health a.j (omega arith) c.bit_at.ensures
    c.without.ensures c.power.ensures c.without-2.ensures c.power-2.ensures
