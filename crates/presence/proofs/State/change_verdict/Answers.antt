-- The state, then the change.
use Rattle.std.proofs.Common.{◌≡◌, Err, ap, ◌∙◌, rules}
use Rattle.words.specs.Refusal.{told}
use Rattle.words.proofs.RefusalLaws.{told-none, then-stops, then-goes}
use Rattle.presence.specs.Change.{change_verdict}
use Rattle.presence.proofs.StateAnswers.{verdict-valid}
use Rattle.presence.proofs.State.change_verdict.Goals as goal

pub returns-in_err-verdict : goal.returns-in_err-verdict
unfolding change_verdict
returns-in_err-verdict c =
    let q : c.from_residual.result ≡ Err c.in_err-verdict.field-0.0 = search rules in
    ap told q ∙ then-stops _ c.verdict.ensures c.in_err-verdict.was

pub new_verdict-requires : goal.new_verdict-requires
new_verdict-requires c = verdict-valid _ c.verdict.ensures (told-none c.in_ok-verdict.was)

pub returns : goal.returns
unfolding change_verdict
returns c = then-goes _ c.verdict.ensures c.in_ok-verdict.was c.new_verdict.ensures
