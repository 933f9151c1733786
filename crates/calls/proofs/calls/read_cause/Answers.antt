-- The two tests, then what reading the word answers.
use Rattle.std.proofs.Common.{◌≡◌, Err, arith, rules}
use Rattle.words.proofs.RefusalLaws.{single-right}
use Rattle.calls.proofs.AnswerLaws.{wrong, cause-by}
use Rattle.calls.proofs.ModuleCallLaws.{cause-size, cause-small, cause-bit, cause-heard}
use Rattle.calls.proofs.calls.read_cause.Goals as goal

pub returns-in_err-single : goal.returns-in_err-single
returns-in_err-single c =
    let q : c.from_residual.result ≡ Err c.in_err-single.field-0.0 = search rules in
    let w = wrong 2 0 c.single.ensures c.in_err-single.was in
    cause-size _ _ _ (cause-by w.1 q) w.0

pub returns-in_err-single-2 : goal.returns-in_err-single-2
returns-in_err-single-2 c =
    let q : c.from_residual-in_err-single-2.result ≡ Err c.in_err-single-2.field-0.0 = search rules in
    let w = wrong 10 0 c.single-2.ensures c.in_err-single-2.was in
    cause-bit _ _ _ (single-right 2 0 (omega arith) c.single.ensures c.in_ok-single.was) (cause-by w.1 q) w.0

pub receive-requires : goal.receive-requires
receive-requires c = cause-small _ 0 0 (single-right 2 0 (omega arith) c.single.ensures c.in_ok-single.was)

pub returns : goal.returns
returns c =
    cause-heard _ _ _ (single-right 2 0 (omega arith) c.single.ensures c.in_ok-single.was)
    (single-right 10 0 (omega arith) c.single-2.ensures c.in_ok-single-2.was) c.receive.ensures
