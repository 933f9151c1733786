-- The code and the definition make the same tests.
use Rattle.scanlock.specs.SoundLocks.{axis_fits}
use Rattle.scanlock.proofs.fits.axis_fits.Goals as goal

pub returns : goal.returns
unfolding axis_fits
returns c = rw c.held_well.ensures
