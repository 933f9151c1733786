-- Whole words, then the head.
use Rattle.std.proofs.Common.{◌≡◌, Err, ap, ◌∙◌, arith, rules}
use Rattle.words.specs.Refusal.{told}
use Rattle.words.proofs.RefusalLaws.{first-stops, first-goes, first-held, single-by, single-right}
use Rattle.setup.specs.Check.{whole, head_ok, check_head}
use Rattle.setup.proofs.SetupCheckLaws.{whole_is}
use Rattle.setup.proofs.check.check_head.Goals as goal

pub returns-in_err-single : goal.returns-in_err-single
unfolding check_head whole
returns-in_err-single c =
    let q : c.from_residual.result ≡ Err c.in_err-single.field-0.0 = search rules in
    ap told q ∙ first-stops _ _ c.single.ensures c.in_err-single.was

pub word_at-requires : goal.word_at-requires
unfolding whole
word_at-requires c = (whole_is c.args.s.now (single-right 1 0 (omega arith) c.single.ensures c.in_ok-single.was)).1

pub returns : goal.returns
unfolding check_head whole
returns c =
    let e = c.head_ok.ensures ∙ ap head_ok c.word_at.ensures in
    first-goes _ _ c.single.ensures c.in_ok-single.was
    (first-held _ _ 3 0 (single-by 2 0 e c.single-2.ensures))
