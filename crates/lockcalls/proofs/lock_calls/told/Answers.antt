-- The image first, then the output, then the event.
use Rattle.std.proofs.Common.{◌≡◌, ℕ, Err, eqb-true, sym, ap, ◌∙◌, arith, rules}
use borrow.Author.Tests.{eqb-false}
use Rattle.words.specs.Verdict.{Verdict}
use Rattle.words.proofs.RefusalLaws.{told-none, told-err, told-on, single-right}
use Rattle.lockcalls.specs.LockCalls.{answer_by, answer_for, lock_told}
use Rattle.lockcalls.proofs.LockCheckLaws.{image-good}
use Rattle.lockcalls.proofs.LockCallLaws.{single-wrong, call-image, call-output, call-refused, call-done}
use Rattle.lockcalls.proofs.lock_calls.told.Goals as goal

pub returns-in_err-check_lock : goal.returns-in_err-check_lock
returns-in_err-check_lock c =
    let q : c.from_residual.result ≡ Err c.in_err-check_lock.field-0.0 = search rules in
    call-image _ _ _ c.check_lock.ensures (told-err c.in_err-check_lock.was) (ap lock_told q ∙ ap answer_by (told-on c.in_err-check_lock.was))

pub returns-in_err-single : goal.returns-in_err-single
returns-in_err-single c =
    let q : c.from_residual-in_err-single.result ≡ Err c.in_err-single.field-0.0 = search rules in
    let (f, w) = single-wrong _ 9 0 c.single.ensures (told-err c.in_err-single.was) in
    call-output _ _ _ c.check_lock.ensures (told-none c.in_ok-check_lock.was) (eqb-false _ 36 f)
    (ap lock_told q ∙ ap answer_by (told-on c.in_err-single.was ∙ w))

pub locks_in-locks-requires : goal.locks_in-locks-requires
locks_in-locks-requires c =
    (image-good _ (ap (λ (x : Verdict). x.number) (sym c.check_lock.ensures) ∙ told-none c.in_ok-check_lock.was)).nine

pub returns-in-Ok : goal.returns-in-Ok
returns-in-Ok c =
    let l = eqb-true _ 36 (single-right 9 0 (omega arith) c.single.ensures c.in_ok-single.was) in
    call-done _ _ _ c.check_lock.ensures (told-none c.in_ok-check_lock.was) l c.locks_in-locks.ensures _ c.in-Ok.ensures c.save_locks.ensures

pub returns-in-Err : goal.returns-in-Err
returns-in-Err c =
    let l = eqb-true _ 36 (single-right 9 0 (omega arith) c.single.ensures c.in_ok-single.was) in
    call-refused _ _ _ c.check_lock.ensures (told-none c.in_ok-check_lock.was) l c.locks_in-locks.ensures _ c.in-Err.ensures
    (c.answer_with.ensures ∙ ap (λ (m : ℕ). answer_for m c.locks_in-locks.result) c.code.ensures)
