-- By the answer to the opening.
use Rattle.std.proofs.Common.{ap, ◌∙◌}
use Rattle.words.specs.Refusal.{refusal_told}
use Rattle.lockcalls.specs.LockCalls.{answer_by}
use Rattle.lockcalls.proofs.LockCallLaws.{lock-open-refused, lock-open-done}
use Rattle.lockcalls.proofs.lock_calls.scanlock_open.Goals as goal

pub returns-in-Ok : goal.returns-in-Ok
returns-in-Ok c = lock-open-done _ _ _ c.in-Ok.ensures c.save_locks.ensures

pub returns-in-Err : goal.returns-in-Err
returns-in-Err c =
    lock-open-refused _ _ _ _ c.in-Err.ensures (c.into.ensures ∙ ap (λ e. answer_by (refusal_told e)) c.at.ensures)
