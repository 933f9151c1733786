-- One section after the other.
use Rattle.std.proofs.Common.{◌≡◌, Err, ap, ◌∙◌, rules}
use Rattle.words.specs.Refusal.{told}
use Rattle.words.proofs.RefusalLaws.{first-stops, first-goes, first-last}
use Rattle.image.proofs.check.check_counters.Goals as goal

pub returns-in_err-check_penalties : goal.returns-in_err-check_penalties
returns-in_err-check_penalties c =
    let q : c.from_residual.result ≡ Err c.in_err-check_penalties.field-0.0 = search rules in
    ap told q ∙ first-stops _ _ c.check_penalties.ensures c.in_err-check_penalties.was

pub returns-in_err-check_rewards : goal.returns-in_err-check_rewards
returns-in_err-check_rewards c =
    let q : c.from_residual-in_err-check_rewards.result ≡ Err c.in_err-check_rewards.field-0.0 = search rules in
    ap told q ∙ first-goes _ _ c.check_penalties.ensures c.in_ok-check_penalties.was (first-stops _ _ c.check_rewards.ensures c.in_err-check_rewards.was)

pub returns : goal.returns
returns c =
    first-goes _ _ c.check_penalties.ensures c.in_ok-check_penalties.was
    (first-goes _ _ c.check_rewards.ensures c.in_ok-check_rewards.was (first-last _ c.check_returns.ensures))
