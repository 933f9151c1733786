-- The code and the definition are the same.
use Rattle.lockcalls.specs.LockImage.{axis_word}
use Rattle.lockcalls.proofs.word.axis_word.Goals as goal

pub returns : goal.returns
unfolding axis_word
returns c = rw (c.flag.ensures.0, c.flag-2.ensures.0)
