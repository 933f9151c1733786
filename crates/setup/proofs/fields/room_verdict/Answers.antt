-- Each test in its turn.
use Rattle.std.proofs.Common.{◌≡◌, Err, ap, ◌∙◌, arith, rules}
use Rattle.words.specs.Refusal.{told}
use Rattle.words.proofs.VerdictLaws.{join-stops, join_goes}
use Rattle.words.proofs.RefusalLaws.{told-none, told-err, told-on, first-stops, first-goes, first-last, single-by, single-right}
use Rattle.setup.specs.Check.{limit_room, room_verdict}
use Rattle.setup.proofs.WordFields.{head-is}
use Rattle.setup.proofs.fields.room_verdict.Goals as goal

pub returns-in_err-single : goal.returns-in_err-single
unfolding room_verdict
returns-in_err-single c =
    let q : c.from_residual.result ≡ Err c.in_err-single.field-0.0 = search rules in
    ap told q ∙ first-stops _ _ (single-by 2 0 c.head_fits.ensures c.single.ensures) c.in_err-single.was

pub returns-in_err-limits_room : goal.returns-in_err-limits_room
unfolding room_verdict
returns-in_err-limits_room c =
    let q : c.from_residual-in_err-limits_room.result ≡ Err c.in_err-limits_room.field-0.0 = search rules in
    ap told q
    ∙ first-goes _ _ (single-by 2 0 c.head_fits.ensures c.single.ensures) c.in_ok-single.was
    (told-on c.in_err-limits_room.was ∙ join-stops (limit_room c.args.setup.limits) _ _ c.limits_room.ensures (told-err c.in_err-limits_room.was))

pub roomy-requires : goal.roomy-requires
roomy-requires c =
    (head-is _ _ (single-right 2 0 (omega arith) (single-by 2 0 c.head_fits.ensures c.single.ensures) c.in_ok-single.was)).most

pub returns : goal.returns
unfolding room_verdict
returns c =
    first-goes _ _ (single-by 2 0 c.head_fits.ensures c.single.ensures) c.in_ok-single.was
    (join_goes (limit_room c.args.setup.limits) _ _ c.limits_room.ensures (told-none c.in_ok-limits_room.was)
    (first-last _ (single-by 5 0 c.roomy.ensures c.single-2.ensures)))
