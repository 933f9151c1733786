-- The new setup, then the frame.
use Rattle.std.proofs.Common.{◌≡◌, Err, ap, ◌∙◌, rules}
use Rattle.words.specs.Refusal.{told}
use Rattle.words.proofs.RefusalLaws.{then-stops, then-goes}
use Rattle.presence.specs.Change.{new_verdict}
use Rattle.presence.proofs.SmallLaws.{valid-size}
use Rattle.presence.proofs.State.new_verdict.Goals as goal

pub returns-in_err-verdict : goal.returns-in_err-verdict
unfolding new_verdict
returns-in_err-verdict c =
    let q : c.from_residual.result ≡ Err c.in_err-verdict.field-0.0 = search rules in
    ap told q ∙ then-stops _ c.verdict.ensures c.in_err-verdict.was

pub frame_verdict-requires : goal.frame_verdict-requires
frame_verdict-requires c = valid-size _ c.requires

pub returns : goal.returns
unfolding new_verdict
returns c = then-goes _ c.verdict.ensures c.in_ok-verdict.was c.frame_verdict.ensures
