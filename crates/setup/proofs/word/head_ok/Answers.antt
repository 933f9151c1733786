-- Kind and Q by one comparison, then N.
use Rattle.std.proofs.Common.{arith}
use Rattle.setup.proofs.WordFields.{head-one}
use Rattle.setup.proofs.word.head_ok.Goals as goal

pub returns : goal.returns
returns c =
    let d = c.wrapping_sub_u32 in
    rw c.field.ensures (head-one _ d.result (omega arith) d.ensures.value)
