-- Two words, one after the other.
use mathlib.Core.Path.{ap₂, ◌∙◌}
use Rattle.doubles.specs.Double.{of_words}
use Rattle.doubles.proofs.double_at.Goals as goal

pub returns : goal.returns
returns c = c.of_words.ensures ∙ ap₂ of_words c.word_at.ensures c.word_at-2.ensures
