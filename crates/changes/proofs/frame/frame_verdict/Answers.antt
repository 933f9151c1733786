-- Number 23, then 24.
use Rattle.std.proofs.Common.{rules, ◌≡◌, Err, ap, ◌∙◌}
use Rattle.words.specs.Refusal.{told}
use Rattle.words.proofs.RefusalLaws.{first-stops, first-goes, first-last, single-by}
use Rattle.changes.specs.Frame.{frame_verdict}
use Rattle.changes.proofs.frame.frame_verdict.Goals as goal

pub returns-in_err-single : goal.returns-in_err-single
unfolding frame_verdict
returns-in_err-single c =
    let q : c.from_residual.result ≡ Err c.in_err-single.field-0.0 = search rules in
    ap told q ∙ first-stops _ _ (single-by 23 0 c.same_frame.ensures c.single.ensures) c.in_err-single.was

pub returns : goal.returns
unfolding frame_verdict
returns c =
    first-goes _ _ (single-by 23 0 c.same_frame.ensures c.single.ensures) c.in_ok-single.was
    (first-last _ (single-by 24 0 c.may_follow.ensures c.single-2.ensures))
