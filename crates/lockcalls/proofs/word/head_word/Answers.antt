-- The code and the definition are the same.
use mathlib.Core.Path.{refl}
use Rattle.lockcalls.specs.LockImage.{lock_head}
use Rattle.lockcalls.proofs.word.head_word.Goals as goal

pub returns : goal.returns
unfolding lock_head
returns c = refl
