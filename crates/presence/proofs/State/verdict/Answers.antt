-- The answer for the setup, then the room of the fields, then the answer for the image.
use Rattle.std.proofs.Common.{◌≡◌, Err, ap, ◌∙◌, sym, arith, rules}
use lib.Seq.{length-take-le}
use Rattle.words.specs.Refusal.{told}
use Rattle.words.proofs.RefusalLaws.{told-none, then-stops, then-goes, single-by, single-right}
use Rattle.setup.proofs.SetupAnswerLaws.{struct-fits, struct-verdict}
use Rattle.presence.specs.Valid.{state_verdict}
use Rattle.presence.proofs.StateAnswers.{length_most}
use Rattle.presence.proofs.State.verdict.Goals as goal

pub returns-in_err-verdict : goal.returns-in_err-verdict
unfolding state_verdict
returns-in_err-verdict c =
    let q : c.from_residual.result ≡ Err c.in_err-verdict.field-0.0 = search rules in
    ap told q ∙ then-stops _ c.verdict.ensures c.in_err-verdict.was

pub roomy-requires : goal.roomy-requires
roomy-requires c = (struct-fits _ c.verdict.ensures (told-none c.in_ok-verdict.was)).most

pub returns-in_err-single : goal.returns-in_err-single
unfolding state_verdict
returns-in_err-single c =
    let q : c.from_residual-in_err-single.result ≡ Err c.in_err-single.field-0.0 = search rules in
    ap told q ∙ then-goes _ c.verdict.ensures c.in_ok-verdict.was (then-stops _ (single-by 8 0 c.roomy.ensures c.single.ensures) c.in_err-single.was)

pub length-requires : goal.length-requires
length-requires c = (struct-fits _ c.verdict.ensures (told-none c.in_ok-verdict.was)).most

pub slice_bounds-out-end : goal.slice_bounds-out-end
slice_bounds-out-end c =
    let f = struct-fits _ c.verdict.ensures (told-none c.in_ok-verdict.was) in
    omega (arith, c.length.ensures, length_most c.args.self f.most)

pub slice_bounds-image_verdict-end : goal.slice_bounds-image_verdict-end
slice_bounds-image_verdict-end c =
    let f = struct-fits _ c.verdict.ensures (told-none c.in_ok-verdict.was) in
    sym (length-take-le _ _ (omega (arith, c.length.ensures, length_most c.args.self f.most)))

pub image_verdict-requires : goal.image_verdict-requires
image_verdict-requires c =
    let f = struct-fits _ c.verdict.ensures (told-none c.in_ok-verdict.was) in (
      struct-verdict _ c.verdict.ensures (told-none c.in_ok-verdict.was),
      single-right 8 0 (omega arith) (single-by 8 0 c.roomy.ensures c.single.ensures) c.in_ok-single.was,
      length-take-le _ _ (omega (arith, c.length.ensures, length_most c.args.self f.most)) ∙ c.length.ensures,
    )

pub returns : goal.returns
unfolding state_verdict
returns c =
    then-goes _ c.verdict.ensures c.in_ok-verdict.was
    (then-goes _ (single-by 8 0 c.roomy.ensures c.single.ensures) c.in_ok-single.was c.image_verdict.ensures)
