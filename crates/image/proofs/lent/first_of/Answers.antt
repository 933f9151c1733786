-- By the form.
use Rattle.image.proofs.lent.first_of.Goals as goal

pub returns-then-fades : goal.returns-then-fades
returns-then-fades c = rw c.if-fades.true c.high_words.ensures

pub returns : goal.returns
returns c = rw c.if-fades.false
