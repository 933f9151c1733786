-- Both tests, as they are joined.
use mathlib.Core.Path.{refl}
use Rattle.changes.specs.Frame.{may_follow}
use Rattle.changes.proofs.frame.may_follow.Goals as goal

pub returns : goal.returns
unfolding may_follow
returns c = refl
