-- The state as it was, or with the change pending.
use Rattle.std.proofs.Common.{◌≡◌, Err, ap, sym, ◌∙◌, rules}
use Rattle.words.proofs.RefusalLaws.{told-ok, told-on}
use Rattle.presence.specs.Change.{changed_told}
use Rattle.presence.proofs.StateChangeLaws.{change-stays, change-made}
use Rattle.presence.proofs.State.change.Goals as goal

pub returns-in_err-change_verdict : goal.returns-in_err-change_verdict
returns-in_err-change_verdict c =
    let q : c.from_residual.result ≡ Err c.in_err-change_verdict.field-0.0 = search rules in
    ap (changed_told c.args.self) q ∙ change-stays _ _ _ _ (told-on c.in_err-change_verdict.was ∙ c.change_verdict.ensures)

pub returns : goal.returns
returns c =
    change-made _ _ _ (sym (told-ok c.in_ok-change_verdict.was) ∙ c.change_verdict.ensures) c.pending_of.ensures
