-- The factor, then the limit: the first that is no double is refused.
use Rattle.std.proofs.Common.{◌≡◌, Err, ap, ◌∙◌, rules}
use Rattle.words.specs.Refusal.{told}
use Rattle.words.proofs.RefusalLaws.{first-stops, first-goes, first-last, single-by}
use Rattle.setup.proofs.bounds.fading_room.Goals as goal

pub returns-in_err-single : goal.returns-in_err-single
returns-in_err-single c =
    let q : c.from_residual.result ≡ Err c.in_err-single.field-0.0 = search rules in
    ap told q ∙ first-stops _ _ (single-by 22 2 c.is_double.ensures c.single.ensures) c.in_err-single.was

pub returns : goal.returns
returns c =
    first-goes _ _ (single-by 22 2 c.is_double.ensures c.single.ensures) c.in_ok-single.was
    (first-last _ (single-by 22 4 c.is_double-2.ensures c.single-2.ensures))
