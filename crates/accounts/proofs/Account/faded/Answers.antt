-- What the picks choose is the account of the definition.
use Rattle.accounts.proofs.FadeLaws.{fade-by}
use Rattle.accounts.proofs.Account.faded.Goals as goal

pub returns : goal.returns
returns c =
    let a = c.args in
    fade-by a.factor a.limit a.q a.healthy a.self c.requires.below c.choose-next.ensures
    c.choose.ensures c.choose-2.ensures c.pick.ensures
