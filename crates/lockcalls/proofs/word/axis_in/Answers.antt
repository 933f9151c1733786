-- The code and the definition are the same.
use mathlib.Core.Path.{refl}
use Rattle.lockcalls.specs.LockImage.{axis_in}
use Rattle.lockcalls.proofs.word.axis_in.Goals as goal

pub returns : goal.returns
unfolding axis_in
returns c = refl
