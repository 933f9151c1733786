-- The low bits of one vector and the others of the other, cut to n bits.
use native.Mathlib.Omega.{arith}
use lib.Pow.{pow_pos}
use Rattle.rules.proofs.SpliceLaws.{splice-bits, splice-fits}
use Rattle.rules.proofs.splice.aligned_heard.Goals as goal

pub nonzero_rem-result : goal.nonzero_rem-result
nonzero_rem-result c = omega (arith, c.power-low.ensures, pow_pos c.args.split)

pub nonzero_rem-result-2 : goal.nonzero_rem-result-2
nonzero_rem-result-2 c = omega (arith, c.power-size.ensures, pow_pos c.args.n)

pub nonzero_div-result : goal.nonzero_div-result
nonzero_div-result c = omega (arith, c.power-low.ensures, pow_pos c.args.split)

pub overflow_mul-result : goal.overflow_mul-result
overflow_mul-result c =
    let a = c.args in
    rw (c.power-low.ensures, c.power-size.ensures)
    (omega (arith, splice-fits a.n a.split a.previous a.this (omega arith) (omega arith)))

pub overflow_add-result : goal.overflow_add-result
overflow_add-result c =
    let a = c.args in
    rw (c.power-low.ensures, c.power-size.ensures)
    (omega (arith, splice-fits a.n a.split a.previous a.this (omega arith) (omega arith)))

pub nonzero_rem-result-3 : goal.nonzero_rem-result-3
nonzero_rem-result-3 c = omega (arith, c.power-size.ensures, pow_pos c.args.n)

pub returns : goal.returns
returns c =
    let a = c.args in
    rw (c.power-low.ensures, c.power-size.ensures) (splice-bits a.n a.split a.previous a.this)
