-- The kind 0 word, the factor and the limit are read and tested.
use Rattle.std.proofs.Common.{ℕ, eqb, ap, ◌∙◌}
use Rattle.words.specs.Word.{word_at}
use Rattle.setup.specs.Limits.{factor_fits, limit_fits}
use Rattle.setup.proofs.BoundLaws.{fading-by}
use Rattle.setup.proofs.bounds.fading_right.Goals as goal

pub returns : goal.returns
returns c =
    fading-by (word_at c.args.s.now) (ap (λ (w : ℕ). eqb w 0) c.word_at.ensures) (c.factor_fits.ensures ∙ ap factor_fits c.double_at.ensures)
    (c.limit_fits.ensures ∙ ap limit_fits c.double_at-2.ensures)
