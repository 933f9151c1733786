-- By the form.
use Rattle.image.proofs.lent.second_of.Goals as goal

pub returns-then-fades : goal.returns-then-fades
returns-then-fades c = rw c.if-fades.true c.low_words.ensures

pub returns : goal.returns
returns c = rw c.if-fades.false
