-- The top eleven bits are compared with kind 10, and the view with the power.
use Rattle.image.specs.Words.{own_ok}
use Rattle.image.proofs.word.own_ok.Goals as goal

pub returns : goal.returns
unfolding own_ok
returns c = rw c.power.ensures
