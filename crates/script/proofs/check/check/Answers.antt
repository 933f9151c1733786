-- 16, then the answer to the setup at the front, then the rest.
use Rattle.std.proofs.Common.{◌≡◌, Err, ap, ◌∙◌, leb-true, arith, rules}
use Rattle.words.specs.Refusal.{told}
use Rattle.words.proofs.RefusalLaws.{told-none, then-stops, then-goes, single-right}
use Rattle.setup.proofs.SetupAnswerLaws.{front_fits}
use Rattle.script.specs.Check.{check_play, check_script}
use Rattle.script.proofs.check.check.Goals as goal

pub returns-in_err-single : goal.returns-in_err-single
unfolding check_script
returns-in_err-single c =
    let q : c.from_residual.result ≡ Err c.in_err-single.field-0.0 = search rules in
    ap told q ∙ then-stops _ c.single.ensures c.in_err-single.was

pub returns-in_err-check_front : goal.returns-in_err-check_front
unfolding check_script
returns-in_err-check_front c =
    let q : c.from_residual-in_err-check_front.result ≡ Err c.in_err-check_front.field-0.0 = search rules in
    ap told q ∙ then-goes _ c.single.ensures c.in_ok-single.was (then-stops _ c.check_front.ensures c.in_err-check_front.was)

pub size_at-requires : goal.size_at-requires
size_at-requires c = (front_fits _ c.check_front.ensures (told-none c.in_ok-check_front.was)).front.room

pub check_play-requires : goal.check_play-requires
check_play-requires c =
    let f = front_fits _ c.check_front.ensures (told-none c.in_ok-check_front.was) in
    let e = c.size_at.ensures in
    let t = single-right 16 0 (omega arith) c.single.ensures c.in_ok-single.was in
    (omega arith, leb-true _ _ t, f.front.whole, f.front.room)

pub returns : goal.returns
unfolding check_script
returns c =
    then-goes _ c.single.ensures c.in_ok-single.was
    (then-goes _ c.check_front.ensures c.in_ok-check_front.was (c.check_play.ensures ∙ ap (check_play _) c.size_at.ensures))
