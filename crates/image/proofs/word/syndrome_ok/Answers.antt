-- Kind and syndrome by one comparison.
use Rattle.std.proofs.Common.{arith}
use Rattle.image.proofs.SingleWords.{syndrome-one}
use Rattle.image.proofs.word.syndrome_ok.Goals as goal

pub returns : goal.returns
returns c =
    syndrome-one _ _ c.wrapping_sub_u32.result c.requires (omega arith) c.wrapping_sub_u32.ensures.value c.power.ensures
