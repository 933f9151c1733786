-- The kind is compared, and the own number is taken out of the word.
use Rattle.image.specs.Words.{own_number_ok}
use Rattle.image.proofs.word.own_number_ok.Goals as goal

pub returns : goal.returns
unfolding own_number_ok
returns c = rw c.field-own.ensures
