-- The code of the cause, and the row of a heard word.
use Rattle.std.proofs.Common.{ℕ, ap, ap₂, ◌∙◌, sym}
use Rattle.rules.proofs.ReceptionLaws.{or-row}
use Rattle.calls.specs.Answers.{cause_told}
use Rattle.calls.specs.declared.CauseAnswer.{CauseAnswer}
use Rattle.calls.proofs.answers.CauseAnswerFromResultResultU32CauseRefusal.from.Goals as goal

pub returns-in-Ok : goal.returns-in-Ok
returns-in-Ok c =
    let heard : ℕ → ℕ → CauseAnswer = λ cause row. record { number = 0; index = 0; cause = cause; row = row } in
    ap₂ heard c.cause_in.ensures (c.unwrap_or.ensures ∙ or-row _) ∙ sym (ap cause_told c.in-Ok.is)
