-- An accepted image is in its one form, so a copy of its bytes is what is written.
use Rattle.std.proofs.Common.{◌≡◌, Err, eqb-true, refl, sym, ap, ◌∙◌, arith, rules}
use borrow.Author.Tests.{eqb-false}
use Rattle.words.specs.Verdict.{Verdict}
use Rattle.words.proofs.RefusalLaws.{told-none, told-err, told-on, single-right}
use Rattle.calls.specs.declared.Answer.{Answer}
use Rattle.calls.specs.Calls.{called}
use Rattle.calls.proofs.AnswerLaws.{wrong, done-by}
use Rattle.calls.proofs.ModuleCallLaws.{save-bad-image, save-no-room, copy-no-room, copy-wrote}
use Rattle.calls.proofs.calls.save.Goals as goal

pub returns-in_err-check_image : goal.returns-in_err-check_image
returns-in_err-check_image c =
    let a = c.args in
    let q : c.from_residual.result ≡ Err c.in_err-check_image.field-0.0 = search rules in
    ap (λ (x : Answer). called x a.out.now) (done-by (told-on c.in_err-check_image.was) q)
    ∙ save-bad-image _ _ c.check_image.ensures (told-err c.in_err-check_image.was)

pub returns-in_err-single : goal.returns-in_err-single
returns-in_err-single c =
    let a = c.args in
    let e = c.check_image.ensures in
    let z = told-none c.in_ok-check_image.was in
    let q : c.from_residual-in_err-single.result ≡ Err c.in_err-single.field-0.0 = search rules in
    let w = wrong 9 0 c.single.ensures c.in_err-single.was in
    ap (λ (x : Answer). called x a.out.now) (done-by w.1 q)
    ∙ save-no-room _ _ e z (copy-no-room _ a.out.now (ap (λ (v : Verdict). v.number) (sym e) ∙ z) (eqb-false _ _ w.0))

pub copy-requires : goal.copy-requires
copy-requires c = sym (eqb-true _ _ (single-right 9 0 (omega arith) c.single.ensures c.in_ok-single.was))

pub returns : goal.returns
returns c =
    let a = c.args in
    let e = c.check_image.ensures in
    copy-wrote _ a.out.now (ap (λ (v : Verdict). v.number) (sym e) ∙ told-none c.in_ok-check_image.was) e refl
    (λ i. omega (arith, c.shared_slice_known-1.given i)) (eqb-true _ _ (single-right 9 0 (omega arith) c.single.ensures c.in_ok-single.was)) c.copy.ensures
