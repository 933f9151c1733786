-- A shift by `low` divides by `2 ^ low`; the shifted 1 fits a word, so it is `2 ^ width`, which is not 0.
use Rattle.std.proofs.Common.{arith, pow_pos}
use Rattle.words.proofs.BitLaws.{one_shifted}
use Rattle.words.proofs.word.field.Goals as goal

pub nonzero_rem-result : goal.nonzero_rem-result
nonzero_rem-result c = rw (one_shifted c.args.width c.requires.1) (omega (arith, pow_pos c.args.width))

pub returns : goal.returns
returns c = rw (one_shifted c.args.width c.requires.1)
