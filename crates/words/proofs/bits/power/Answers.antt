-- The shifted 1 fits a word.
use Rattle.words.proofs.BitLaws.{one_shifted}
use Rattle.words.proofs.bits.power.Goals as goal

pub returns : goal.returns
returns c = one_shifted c.args.n c.requires
