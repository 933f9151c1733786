-- Each case of the limits is that of the definition.
use Rattle.accounts.specs.Round.{accounted_by}
use Rattle.accounts.proofs.CounterLoopLaws.{form-countable, form-accounted}
use Rattle.accounts.proofs.Account.next.Goals as goal

pub accounted-requires : goal.accounted-requires
accounted-requires c =
    form-countable c.args.q c.args.criticality c.args.self c.in-Counts.is c.requires

pub faded-requires : goal.faded-requires
faded-requires c =
    form-countable c.args.q c.args.criticality c.args.self c.in-Fading.is c.requires

pub returns-in-Counts : goal.returns-in-Counts
unfolding accounted_by
returns-in-Counts c =
    let a = c.args in
    form-accounted a.q a.criticality a.self c.in-Counts.is a.healthy c.accounted.ensures

pub returns-in-Fading : goal.returns-in-Fading
unfolding accounted_by
returns-in-Fading c =
    let a = c.args in
    form-accounted a.q a.criticality a.self c.in-Fading.is a.healthy c.faded.ensures
