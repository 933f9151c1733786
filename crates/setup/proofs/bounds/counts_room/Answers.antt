-- P, then R: the first that is too wide is refused.
use Rattle.std.proofs.Common.{◌≡◌, Err, ap, ◌∙◌, rules}
use Rattle.words.specs.Refusal.{told}
use Rattle.words.proofs.RefusalLaws.{first-stops, first-goes, first-last}
use Rattle.setup.proofs.bounds.counts_room.Goals as goal

pub returns-in_err-single : goal.returns-in_err-single
returns-in_err-single c =
    let q : c.from_residual.result ≡ Err c.in_err-single.field-0.0 = search rules in
    ap told q ∙ first-stops _ _ c.single.ensures c.in_err-single.was

pub returns : goal.returns
returns c = first-goes _ _ c.single.ensures c.in_ok-single.was (first-last _ c.single-2.ensures)
