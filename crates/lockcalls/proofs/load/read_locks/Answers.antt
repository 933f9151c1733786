-- By the check.
use Rattle.std.proofs.Common.{◌≡◌, Err, sym, ap, ◌∙◌, rules}
use Rattle.words.specs.Verdict.{Verdict}
use Rattle.words.proofs.RefusalLaws.{told-ok, told-none, told-on}
use Rattle.lockcalls.specs.LockImage.{locks_told}
use Rattle.lockcalls.proofs.LockCheckLaws.{image-good}
use Rattle.lockcalls.proofs.LockCallLaws.{read-refused, read-accepted}
use Rattle.lockcalls.proofs.load.read_locks.Goals as goal

pub returns-in_err-check_lock : goal.returns-in_err-check_lock
returns-in_err-check_lock c =
    let q : c.from_residual.result ≡ Err c.in_err-check_lock.field-0.0 = search rules in
    ap locks_told q ∙ read-refused _ _ c.check_lock.ensures (told-on c.in_err-check_lock.was)

pub locks_in-requires : goal.locks_in-requires
locks_in-requires c =
    (image-good _ (ap (λ (x : Verdict). x.number) (sym c.check_lock.ensures) ∙ told-none c.in_ok-check_lock.was)).nine

pub returns : goal.returns
returns c = read-accepted _ c.check_lock.ensures (told-ok c.in_ok-check_lock.was) c.locks_in.ensures
