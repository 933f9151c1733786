-- 9, then the interrupt.
use Rattle.std.proofs.Common.{◌≡◌, Err, arith, rules}
use Rattle.words.proofs.RefusalLaws.{single-right}
use Rattle.calls.proofs.AnswerLaws.{wrong, word-by}
use Rattle.page.proofs.HostLaws.{long, interrupt-short, interrupt-told}
use Rattle.page.proofs.host.interrupt.Goals as goal

pub returns-in_err-single : goal.returns-in_err-single
returns-in_err-single c =
    let q : c.from_residual.result ≡ Err c.in_err-single.field-0.0 = search rules in
    let w = wrong 9 0 c.single.ensures c.in_err-single.was in
    interrupt-short _ w.0 (word-by w.1 q)

pub interrupt_on-requires : goal.interrupt_on-requires
interrupt_on-requires c = long _ (single-right 9 0 (omega arith) c.single.ensures c.in_ok-single.was)

pub returns : goal.returns
returns c = interrupt-told _ (single-right 9 0 (omega arith) c.single.ensures c.in_ok-single.was) c.interrupt_on.ensures c.flag.ensures.0
