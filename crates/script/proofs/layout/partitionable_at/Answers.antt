-- The bit is that of the definition.
use mathlib.Core.Path.{ap, ◌∙◌}
use Rattle.setup.specs.Setup.{partitionable_in}
use Rattle.script.proofs.layout.partitionable_at.Goals as goal

pub returns : goal.returns
returns c = c.bit_at.ensures ∙ ap partitionable_in c.word_at.ensures
