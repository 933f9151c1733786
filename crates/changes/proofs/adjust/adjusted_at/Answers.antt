use Rattle.changes.proofs.AdjustLaws.{adjusted-read}
use Rattle.changes.proofs.adjust.adjusted_at.Goals as goal

pub returns : goal.returns
returns c =
    let a = c.args in
    adjusted-read a.new.now a.c.now a.j _ c.bit_at.ensures c.adjusted.ensures
