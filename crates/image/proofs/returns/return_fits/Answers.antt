-- By one comparison.
use Rattle.image.proofs.ReturnLaws.{return-one}
use Rattle.image.proofs.returns.return_fits.Goals as goal

pub returns : goal.returns
returns c =
    let a = c.args in
    return-one a.q a.count a.present c.pick.ensures c.pick-2.ensures
