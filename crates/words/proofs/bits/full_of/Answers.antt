-- A power of 2 is at least 1, so 1 can be taken from it.
use Rattle.std.proofs.Common.{arith, pow_pos}
use Rattle.words.proofs.bits.full_of.Goals as goal

pub overflow_sub-result : goal.overflow_sub-result
overflow_sub-result c = omega (arith, c.power.ensures, pow_pos c.args.n)
