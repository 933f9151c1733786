-- P, then R: the first whose word is wrong is refused.
use Rattle.std.proofs.Common.{◌≡◌, Err, ap, ◌∙◌, rules}
use Rattle.words.specs.Refusal.{told}
use Rattle.words.proofs.RefusalLaws.{first-stops, first-goes, first-last, single-by}
use Rattle.setup.specs.Check.{limit_ok}
use Rattle.setup.proofs.bounds.check_counts.Goals as goal

pub returns-in_err-single : goal.returns-in_err-single
returns-in_err-single c =
    let e = c.limit_ok-penalty.ensures ∙ ap (limit_ok _ _) c.word_at.ensures in
    let q : c.from_residual.result ≡ Err c.in_err-single.field-0.0 = search rules in
    ap told q ∙ first-stops _ _ (single-by 4 1 e c.single.ensures) c.in_err-single.was

pub returns : goal.returns
returns c =
    let d = c.limit_ok-penalty.ensures ∙ ap (limit_ok _ _) c.word_at.ensures in
    let e = c.limit_ok-reward.ensures ∙ ap (limit_ok _ _) c.word_at-2.ensures in
    first-goes _ _ (single-by 4 1 d c.single.ensures) c.in_ok-single.was (first-last _ (single-by 4 2 e c.single-2.ensures))
