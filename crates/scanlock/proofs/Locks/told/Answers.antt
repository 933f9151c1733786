-- As the axis at the index answers.
use Rattle.std.proofs.Common.{rules, ◌≡◌, Err, ap, sym, ◌∙◌}
use Rattle.scanlock.specs.Axis.{axis_told}
use Rattle.scanlock.specs.Locks.{event_told}
use Rattle.scanlock.proofs.LockEventLaws.{index-is, event-done, event-refused}
use Rattle.scanlock.proofs.Locks.told.Goals as goal

pub returns-in_err-self : goal.returns-in_err-self
returns-in_err-self g c = λ may a t e h.
    let q : c.from_residual.result ≡ Err c.in_err-self.field-0.0 = search rules in
    let (_, k) = index-is may a _ (sym c.in-Some.is ∙ e) in
    ap (event_told _) q
    ∙ event-refused _ may a _ t _ _ (sym c.in-Some.is ∙ e) (sym (ap (axis_told _) c.in_err-self.was) ∙ h _ (rw k at c.takes.ensures))

pub returns : goal.returns
returns g c = λ may a t e h.
    let (_, k) = index-is may a _ (sym c.in-Some.is ∙ e) in
    event-done _ may a _ t (sym c.in-Some.is ∙ e) (sym (ap (axis_told _) c.in_ok-self.was) ∙ h _ (rw k at c.takes.ensures))
