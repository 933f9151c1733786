-- The words before those of the modules, by the form of the setup, and N, by its head.
use mathlib.Core.Path.{ap, ap₂, ◌∙◌}
use native.Mathlib.Omega.{arith}
use Rattle.setup.specs.Layout.{front_words, setup_words}
use Rattle.script.proofs.layout.cast_at.Goals as goal

pub returns : goal.returns
returns c =
    let n = c.size_at.ensures in (
      c.setup_words.ensures ∙ ap₂ setup_words (c.front_words.ensures.0 ∙ ap front_words c.fades_at.ensures) n,
      omega arith,
    )
