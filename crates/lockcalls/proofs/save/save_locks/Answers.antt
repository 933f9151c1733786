-- By the length of the output.
use Rattle.std.proofs.Common.{ap, ◌∙◌}
use Rattle.words.specs.Refusal.{refusal_told}
use Rattle.lockcalls.specs.LockCalls.{answer_by}
use Rattle.lockcalls.proofs.LockCallLaws.{lock-saved, lock-not-saved}
use Rattle.lockcalls.proofs.save.save_locks.Goals as goal

pub returns-then-out-ne36 : goal.returns-then-out-ne36
returns-then-out-ne36 c = lock-not-saved _ _ c.if-out-ne36.true (c.into.ensures ∙ ap (λ e. answer_by (refusal_told e)) c.at.ensures)

pub returns : goal.returns
returns c = lock-saved _ _ c.if-out-ne36.false c.answer_with.ensures c.save_words.ensures
