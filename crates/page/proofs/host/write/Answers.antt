-- 9, 17, 18, then the word and the interrupt after it.
use Rattle.std.proofs.Common.{◌≡◌, Err, ◌∙◌, arith, rules}
use Rattle.words.proofs.RefusalLaws.{single-right}
use Rattle.calls.proofs.AnswerLaws.{wrong, word-by}
use Rattle.page.proofs.HostLaws.{long, write-short, write-off, write-outside, write_done}
use Rattle.page.proofs.host.write.Goals as goal

pub returns-in_err-single : goal.returns-in_err-single
returns-in_err-single c =
    let q : c.from_residual.result ≡ Err c.in_err-single.field-0.0 = search rules in
    let w = wrong 9 0 c.single.ensures c.in_err-single.was in
    write-short _ w.0 (word-by w.1 q) _ _

pub returns-in_err-single-2 : goal.returns-in_err-single-2
returns-in_err-single-2 c =
    let q : c.from_residual-in_err-single-2.result ≡ Err c.in_err-single-2.field-0.0 = search rules in
    let w = wrong 17 0 c.single-2.ensures c.in_err-single-2.was in
    write-off _ (single-right 9 0 (omega arith) c.single.ensures c.in_ok-single.was) _ c.starts_word.ensures w.0 (word-by w.1 q) _

pub returns-in_err-single-3 : goal.returns-in_err-single-3
returns-in_err-single-3 c =
    let q : c.from_residual-in_err-single-3.result ≡ Err c.in_err-single-3.field-0.0 = search rules in
    let w = wrong 18 0 c.single-3.ensures c.in_err-single-3.was in
    write-outside _ (single-right 9 0 (omega arith) c.single.ensures c.in_ok-single.was) _ c.starts_word.ensures
    (single-right 17 0 (omega arith) c.single-2.ensures c.in_ok-single-2.was) _ w.0 (word-by w.1 q)

pub write_page-requires : goal.write_page-requires
write_page-requires c = long _ (single-right 9 0 (omega arith) c.single.ensures c.in_ok-single.was)

pub interrupt_on-requires : goal.interrupt_on-requires
interrupt_on-requires c = c.write_page.auto.page ∙ long _ (single-right 9 0 (omega arith) c.single.ensures c.in_ok-single.was)

pub returns : goal.returns
returns c =
    write_done _ (single-right 9 0 (omega arith) c.single.ensures c.in_ok-single.was) _ c.starts_word.ensures
    (single-right 17 0 (omega arith) c.single-2.ensures c.in_ok-single-2.was) _ (single-right 18 0 (omega arith) c.single-3.ensures c.in_ok-single-3.was)
    c.write_page.ensures c.interrupt_on.ensures c.flag.ensures.0
