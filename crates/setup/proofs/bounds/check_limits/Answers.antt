-- Each form by its own function.
use Rattle.std.proofs.Common.{Bool, sym, ap, ◌∙◌}
use Rattle.words.specs.Word.{word_at}
use Rattle.words.specs.Verdict.{first_refusal}
use Rattle.setup.specs.Check.{limit_tests}
use Rattle.setup.proofs.BoundLaws.{fading-bytes, counts-bytes}
use Rattle.setup.proofs.bounds.check_limits.Goals as goal

pub check_fading-requires : goal.check_fading-requires
check_fading-requires c = fading-bytes c.if-fades.true c.requires

pub returns-then-fades : goal.returns-then-fades
returns-then-fades c =
    let w = word_at c.args.s.now in
    c.check_fading.ensures ∙ ap (λ (b : Bool). first_refusal (limit_tests b w)) (sym c.if-fades.true)

pub check_counts-requires : goal.check_counts-requires
check_counts-requires c = counts-bytes c.if-fades.false c.requires

pub returns : goal.returns
returns c =
    let w = word_at c.args.s.now in
    c.check_counts.ensures ∙ ap (λ (b : Bool). first_refusal (limit_tests b w)) (sym c.if-fades.false)
