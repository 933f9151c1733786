-- The word at its place, and the field in it.
use Rattle.std.proofs.Common.{ap, ◌∙◌}
use Rattle.words.specs.Word.{word_at}
use Rattle.image.specs.Words.{syndrome_in}
use Rattle.image.proofs.read.latest_in.Goals as goal

pub returns : goal.returns
returns c = ap syndrome_in (c.word_at.ensures ∙ ap (word_at _) c.latest_at.ensures)
