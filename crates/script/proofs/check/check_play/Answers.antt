-- The cast in its turn, then the words after it.
use Rattle.std.proofs.Common.{◌≡◌, Err, ap, ◌∙◌, ltb-true, arith, rules}
use Rattle.words.specs.Refusal.{told}
use Rattle.words.proofs.RefusalLaws.{then-stops, then-goes, first-stops, first-goes, first-last, single-by, single-right}
use Rattle.script.specs.Check.{check_cast, check_play}
use Rattle.script.proofs.ScanLaws.{cast-there, cast-asked, cast-then}
use Rattle.script.proofs.check.check_play.Goals as goal

pub returns-in_err-single : goal.returns-in_err-single
unfolding check_play check_cast
returns-in_err-single c =
    let q : c.from_residual.result ≡ Err c.in_err-single.field-0.0 = search rules in
    let i = c.in_err-single.was in
    ap told q
    ∙ then-stops _ (ap told i ∙ first-stops _ _ (single-by 14 _ (cast-there _ 0 c.cast_at-place.ensures.0) c.single.ensures) i) i

pub word_at-w-requires : goal.word_at-w-requires
word_at-w-requires c =
    let l = ltb-true _ _ (single-right 14 _ (omega arith) c.single.ensures c.in_ok-single.was) in
    omega (arith, l)

pub returns-in_err-single-2 : goal.returns-in_err-single-2
unfolding check_play check_cast
returns-in_err-single-2 c =
    let q : c.from_residual-in_err-single-2.result ≡ Err c.in_err-single-2.field-0.0 = search rules in
    let a = c.cast_at-place.ensures.0 in
    ap told q
    ∙ then-stops _
    (first-goes _ _ (single-by 14 _ (cast-there _ 0 a) c.single.ensures) c.in_ok-single.was
    (first-last _ (cast-asked _ _ a c.word_at-w.ensures c.cast_ok.ensures c.single-2.ensures)))
    c.in_err-single-2.was

pub check_tail-requires : goal.check_tail-requires
check_tail-requires c =
    let l = ltb-true _ _ (single-right 14 _ (omega arith) c.single.ensures c.in_ok-single.was) in
    (omega arith, omega arith, omega (arith, l), omega arith)

pub returns : goal.returns
unfolding check_play check_cast
returns c =
    let a = c.cast_at-place.ensures.0 in
    then-goes _
    (first-goes _ _ (single-by 14 _ (cast-there _ 0 a) c.single.ensures) c.in_ok-single.was
    (first-last _ (cast-asked _ _ a c.word_at-w.ensures c.cast_ok.ensures c.single-2.ensures)))
    c.in_ok-single-2.was (cast-then _ _ a c.word_at-w.ensures c.check_tail.ensures)
