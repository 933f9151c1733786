-- The word is read and made again.
use Rattle.lockcalls.proofs.LockCheckLaws.{axis-tested}
use Rattle.lockcalls.proofs.word.axis_ok.Goals as goal

pub returns : goal.returns
returns c = axis-tested _ _ c.axis_in-x.ensures c.axis_word.ensures c.axis_fits.ensures
