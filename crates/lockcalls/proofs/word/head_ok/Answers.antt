-- The code and the definition make the same tests.
use Rattle.lockcalls.specs.LockImage.{lock_head_ok}
use Rattle.lockcalls.proofs.word.head_ok.Goals as goal

pub returns : goal.returns
unfolding lock_head_ok
returns c = rw c.view_fits.ensures
