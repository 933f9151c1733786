-- What the picks choose is the case of the definition.
use Rattle.changes.proofs.AdjustLaws.{adjusted-by}
use Rattle.changes.proofs.adjust.adjusted.Goals as goal

pub returns : goal.returns
returns c =
    let a = c.args in
    adjusted-by a.p a.r a.criticality a.a c.pick-penalty.ensures
    c.pick-reward.ensures c.fitted-outside.ensures c.pick.ensures c.pick-2.ensures
