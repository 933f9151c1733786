-- Numbers 1 and 2, then the length, then the words: where one refuses, its answer is the whole answer.
use Rattle.std.proofs.Common.{◌≡◌, ℕ, Err, eqb, eqb-true, length, ap, ◌∙◌, arith, rules}
use Rattle.words.specs.Refusal.{told}
use Rattle.words.proofs.RefusalLaws.{told-none, told-err, told-on, then-stops, then-goes, single-by, single-right}
use Rattle.setup.specs.Check.{check_words, check_setup}
use Rattle.setup.proofs.SetupAnswerLaws.{head-fits, head-stays, head-length, length-by}
use Rattle.setup.proofs.check.check.Goals as goal

pub returns-in_err-check_head : goal.returns-in_err-check_head
unfolding check_setup
returns-in_err-check_head c =
    let q : c.from_residual.result ≡ Err c.in_err-check_head.field-0.0 = search rules in
    ap told q ∙ told-on c.in_err-check_head.was ∙ head-stays _ c.check_head.ensures _ _ (told-err c.in_err-check_head.was)

pub size_at-n-requires : goal.size_at-n-requires
size_at-n-requires c = (head-fits _ c.check_head.ensures (told-none c.in_ok-check_head.was)).room

pub fades_at-fades-requires : goal.fades_at-fades-requires
fades_at-fades-requires c = (head-fits _ c.check_head.ensures (told-none c.in_ok-check_head.was)).whole

pub returns-in_err-single : goal.returns-in_err-single
unfolding check_setup
returns-in_err-single c =
    let l = length-by _ c.fades_at-fades.ensures c.front_words.ensures.0 c.size_at-n.ensures c.setup_length.ensures in
    let q : c.from_residual-in_err-single.result ≡ Err c.in_err-single.field-0.0 = search rules in
    ap told q
    ∙ then-stops _ (head-length _ c.check_head.ensures _ (told-none c.in_ok-check_head.was) (single-by 3 0 (ap (λ (k : ℕ). eqb (length c.args.s.now) k) l) c.single.ensures)) c.in_err-single.was

pub check_words-requires : goal.check_words-requires
check_words-requires c =
    let h = head-fits _ c.check_head.ensures (told-none c.in_ok-check_head.was) in
    let e = c.size_at-n.ensures in
    let w = c.front_words.ensures.0 in
    let l = c.setup_length.ensures in
    let k : length c.args.s.now ≡ c.setup_length.result = eqb-true _ _ (single-right 3 0 (omega arith) c.single.ensures c.in_ok-single.was) in
    (omega (arith, h.most), omega arith, c.fades_at-fades.ensures)

pub returns : goal.returns
unfolding check_setup
returns c =
    let e = c.size_at-n.ensures in
    let l = length-by _ c.fades_at-fades.ensures c.front_words.ensures.0 e c.setup_length.ensures in
    then-goes _ (head-length _ c.check_head.ensures _ (told-none c.in_ok-check_head.was) (single-by 3 0 (ap (λ (k : ℕ). eqb (length c.args.s.now) k) l) c.single.ensures)) c.in_ok-single.was
    (c.check_words.ensures ∙ ap (check_words _) e)
