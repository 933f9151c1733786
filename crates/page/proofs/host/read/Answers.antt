-- 9, 17, then the word.
use Rattle.std.proofs.Common.{◌≡◌, Err, arith, rules}
use Rattle.words.proofs.RefusalLaws.{single-right}
use Rattle.calls.proofs.AnswerLaws.{wrong, word-by}
use Rattle.page.proofs.HostLaws.{read_short, read_off, word_fits, read_told}
use Rattle.page.proofs.host.read.Goals as goal

pub returns-in_err-single : goal.returns-in_err-single
returns-in_err-single c =
    let q : c.from_residual.result ≡ Err c.in_err-single.field-0.0 = search rules in
    let w = wrong 9 0 c.single.ensures c.in_err-single.was in
    read_short _ w.0 (word-by w.1 q) _

pub returns-in_err-single-2 : goal.returns-in_err-single-2
returns-in_err-single-2 c =
    let q : c.from_residual-in_err-single-2.result ≡ Err c.in_err-single-2.field-0.0 = search rules in
    let w = wrong 17 0 c.single-2.ensures c.in_err-single-2.was in
    read_off _ (single-right 9 0 (omega arith) c.single.ensures c.in_ok-single.was) _ c.starts_word.ensures w.0 (word-by w.1 q)

pub word_at-requires : goal.word_at-requires
word_at-requires c =
    word_fits _ (single-right 9 0 (omega arith) c.single.ensures c.in_ok-single.was) _ c.starts_word.ensures
    (single-right 17 0 (omega arith) c.single-2.ensures c.in_ok-single-2.was)

pub returns : goal.returns
returns c =
    read_told _ (single-right 9 0 (omega arith) c.single.ensures c.in_ok-single.was) _ c.starts_word.ensures
    (single-right 17 0 (omega arith) c.single-2.ensures c.in_ok-single-2.was) c.word_at.ensures
