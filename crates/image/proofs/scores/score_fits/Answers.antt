-- The sign and the range, then the side of the limit.
use Rattle.image.specs.Scores.{score_fits}
use Rattle.image.proofs.scores.score_fits.Goals as goal

pub returns : goal.returns
unfolding score_fits
returns c = rw c.is_non_negative.ensures
