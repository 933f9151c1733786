-- The kind 0 word and the two doubles are written, each at its place.
use Rattle.setup.proofs.BoundLaws.{fading-put}
use Rattle.setup.proofs.bounds.put_fading.Goals as goal

pub returns : goal.returns
returns c =
    fading-put _ _ _ c.put_word.ensures c.put_double.ensures c.put_double-2.ensures
