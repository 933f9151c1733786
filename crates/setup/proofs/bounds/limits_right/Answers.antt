-- Each form by its own function.
use Rattle.std.proofs.Common.{Bool, sym, ap, ◌∙◌}
use Rattle.words.specs.Word.{word_at}
use Rattle.words.specs.Verdict.{all_right}
use Rattle.setup.specs.Check.{limit_tests}
use Rattle.setup.proofs.BoundLaws.{fading-bytes, counts-bytes}
use Rattle.setup.proofs.bounds.limits_right.Goals as goal

pub fading_right-requires : goal.fading_right-requires
fading_right-requires c = fading-bytes c.if-fades.true c.requires

pub returns-then-fades : goal.returns-then-fades
returns-then-fades c =
    let w = word_at c.args.s.now in
    c.fading_right.ensures ∙ ap (λ (b : Bool). all_right (limit_tests b w)) (sym c.if-fades.true)

pub counts_right-requires : goal.counts_right-requires
counts_right-requires c = counts-bytes c.if-fades.false c.requires

pub returns : goal.returns
returns c =
    let w = word_at c.args.s.now in
    c.counts_right.ensures ∙ ap (λ (b : Bool). all_right (limit_tests b w)) (sym c.if-fades.false)
