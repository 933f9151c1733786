-- Each test in its turn is the one of the definition.
use Rattle.std.proofs.Common.{◌≡◌, Err, length, eqb-true, ap, ◌∙◌, arith, rules, tests}
use Rattle.words.specs.Refusal.{told}
use Rattle.words.proofs.RefusalLaws.{first-stops, first-goes, first-last, single-by, single-right}
use Rattle.setup.specs.Check.{whole}
use Rattle.setup.proofs.SetupCheckLaws.{whole_is}
use Rattle.lockcalls.specs.LockImage.{lock_head_ok, check_lock_image}
use Rattle.lockcalls.proofs.check.check_lock.Goals as goal

pub returns-in_err-single : goal.returns-in_err-single
unfolding check_lock_image whole
returns-in_err-single c =
    let q : c.from_residual.result ≡ Err c.in_err-single.field-0.0 = search rules in
    ap told q ∙ first-stops _ _ c.single.ensures c.in_err-single.was

pub word_at-head-requires : goal.word_at-head-requires
unfolding whole
word_at-head-requires c = (whole_is c.args.image.now (single-right 1 0 (omega arith) c.single.ensures c.in_ok-single.was)).1

pub returns-in_err-single-2 : goal.returns-in_err-single-2
unfolding check_lock_image whole
returns-in_err-single-2 c =
    let e = c.head_ok.ensures ∙ ap lock_head_ok c.word_at-head.ensures in
    let q : c.from_residual-in_err-single-2.result ≡ Err c.in_err-single-2.field-0.0 = search rules in
    ap told q
    ∙ first-goes _ _ c.single.ensures c.in_ok-single.was (first-stops _ _ (single-by 2 0 e c.single-2.ensures) c.in_err-single-2.was)

pub returns-in_err-single-3 : goal.returns-in_err-single-3
unfolding check_lock_image whole
returns-in_err-single-3 c =
    let e = c.head_ok.ensures ∙ ap lock_head_ok c.word_at-head.ensures in
    let q : c.from_residual-in_err-single-3.result ≡ Err c.in_err-single-3.field-0.0 = search rules in
    ap told q
    ∙ first-goes _ _ c.single.ensures c.in_ok-single.was
    (first-goes _ _ (single-by 2 0 e c.single-2.ensures) c.in_ok-single-2.was (first-stops _ _ c.single-3.ensures c.in_err-single-3.was))

pub each-requires-clause-callable : goal.each-requires-clause-callable
each-requires-clause-callable c =
    let n : length c.args.image.now ≡ 36 = eqb-true _ 36 (single-right 3 0 (omega arith) c.single-3.ensures c.in_ok-single-3.was) in
    λ j l. search (rules, n)

pub returns : goal.returns
unfolding check_lock_image whole
returns c =
    let e = c.head_ok.ensures ∙ ap lock_head_ok c.word_at-head.ensures in
    first-goes _ _ c.single.ensures c.in_ok-single.was
    (first-goes _ _ (single-by 2 0 e c.single-2.ensures) c.in_ok-single-2.was
    (first-goes _ _ c.single-3.ensures c.in_ok-single-3.was
    (first-last _ (c.each.ensures _ (λ j b l p. search (rules, tests, c.word_at-head.ensures))))))
