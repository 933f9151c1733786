-- Both words are written, each at its place.
use Rattle.setup.proofs.BoundLaws.{counts-put}
use Rattle.setup.proofs.bounds.put_counts.Goals as goal

pub returns : goal.returns
returns c = counts-put _ _ _ c.put_word.ensures c.put_word-2.ensures
