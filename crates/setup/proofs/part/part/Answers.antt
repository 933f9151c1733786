-- The setup's length where the check accepts, else nothing.
use Rattle.std.proofs.Common.{sym, arith, length-take-le}
use Rattle.words.proofs.RefusalLaws.{was-err, was-ok}
use Rattle.setup.proofs.SetupAnswerLaws.{length-by, part-refused, part-accepted, front_fits}
use Rattle.setup.proofs.part.part.Goals as goal

pub returns-then-is_err : goal.returns-then-is_err
returns-then-is_err c = part-refused _ c.check_front.ensures (was-err _ c.is_err.ensures.value c.if-is_err.true)

pub fades_at-requires : goal.fades_at-requires
fades_at-requires c = (front_fits _ c.check_front.ensures (was-ok _ c.is_err.ensures.value c.if-is_err.false)).front.whole

pub size_at-requires : goal.size_at-requires
size_at-requires c =
    (front_fits _ c.check_front.ensures (was-ok _ c.is_err.ensures.value c.if-is_err.false)).front.room

pub slice_bounds-result-end-2 : goal.slice_bounds-result-end-2
slice_bounds-result-end-2 c =
    let f = front_fits _ c.check_front.ensures (was-ok _ c.is_err.ensures.value c.if-is_err.false) in
    let l = length-by _ c.fades_at.ensures c.front_words.ensures.0 c.size_at.ensures c.setup_length-k.ensures in
    sym (length-take-le _ _ (omega (arith, f.room)))

pub returns : goal.returns
returns c =
    let l = length-by _ c.fades_at.ensures c.front_words.ensures.0 c.size_at.ensures c.setup_length-k.ensures in
    part-accepted _ c.check_front.ensures l (was-ok _ c.is_err.ensures.value c.if-is_err.false)
