-- The word at its place, and the field in it.
use Rattle.std.proofs.Common.{ap, ◌∙◌}
use Rattle.words.specs.Word.{word_at}
use Rattle.image.specs.Words.{view_in}
use Rattle.image.proofs.read.view_in.Goals as goal

pub returns : goal.returns
returns c = ap view_in (c.word_at.ensures ∙ ap (word_at _) c.own_at.ensures)
