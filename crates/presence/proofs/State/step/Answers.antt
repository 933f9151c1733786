-- The verdict on the state decides; a valid state makes the round.
use Rattle.std.proofs.Common.{◌≡◌, Err, ap, ◌∙◌, rules}
use Rattle.words.proofs.RefusalLaws.{told-none, told-on}
use Rattle.presence.specs.Step.{stepped_told}
use Rattle.presence.proofs.StateAnswers.{verdict-valid}
use Rattle.presence.proofs.StateRoundLaws.{step-goes, step-stops}
use Rattle.presence.proofs.State.step.Goals as goal

pub returns-in_err-verdict : goal.returns-in_err-verdict
returns-in_err-verdict c =
    let q : c.from_residual.result ≡ Err c.in_err-verdict.field-0.0 = search rules in
    ap (stepped_told c.args.self) q ∙ step-stops _ _ _ _ (told-on c.in_err-verdict.was ∙ c.verdict.ensures)

pub stepped-requires : goal.stepped-requires
stepped-requires c = verdict-valid _ c.verdict.ensures (told-none c.in_ok-verdict.was)

pub returns : goal.returns
returns c = step-goes _ _ _ c.verdict.ensures (told-none c.in_ok-verdict.was) c.stepped.ensures
