-- By the one word where there is one, else by counting.
use Rattle.views.proofs.MajorityLaws.{same_by}
use Rattle.views.proofs.adopt.adoption.Goals as goal

pub returns-in-Some : goal.returns-in-Some
returns-in-Some c =
    let a = c.args in
    same_by a.n a.views.now _ (c.common_word.ensures _ c.in-Some.is) c.power.ensures
