-- The shifted bit fits a word, and so does its sum with a vector below `2 ^ j`.
use Rattle.std.proofs.Common.{ℕ, ◌+◌, ap, arith}
use Rattle.words.proofs.BitLaws.{shifted, with-lt}
use Rattle.words.proofs.bits.with_bit.Goals as goal

pub overflow_add-result : goal.overflow_add-result
overflow_add-result c =
    let a = c.args in
    omega (arith, shifted a.b a.j (omega arith), with-lt a.b a.acc a.j c.requires.0 c.requires.1)

pub returns : goal.returns
returns c = ap (λ (x : ℕ). c.args.acc + x) (shifted c.args.b c.args.j (omega arith))
