-- The setup is tested, then the own number; what passes is a fresh module.
use Rattle.std.proofs.Common.{◌≡◌, Err, ap, sym, ◌∙◌, rules}
use Rattle.words.proofs.RefusalLaws.{told-ok, told-on, told-none, then-stops, then-goes}
use Rattle.setup.proofs.SetupAnswerLaws.{struct-fits}
use Rattle.presence.specs.Opening.{check_opening, opened_told}
use Rattle.presence.proofs.StateRoundLaws.{open-refused, open-done}
use Rattle.presence.proofs.State.open.Goals as goal

pub returns-in_err-verdict : goal.returns-in_err-verdict
unfolding check_opening
returns-in_err-verdict c =
    let q : c.from_residual.result ≡ Err c.in_err-verdict.field-0.0 = search rules in
    ap opened_told q ∙ open-refused _ _ _ (then-stops _ c.verdict.ensures c.in_err-verdict.was)

pub returns-in_err-single : goal.returns-in_err-single
unfolding check_opening
returns-in_err-single c =
    let q : c.from_residual-in_err-single.result ≡ Err c.in_err-single.field-0.0 = search rules in
    ap opened_told q
    ∙ open-refused _ _ _ (then-goes _ c.verdict.ensures c.in_ok-verdict.was (told-on c.in_err-single.was ∙ c.single.ensures))

pub fresh-requires : goal.fresh-requires
fresh-requires c = (struct-fits _ c.verdict.ensures (told-none c.in_ok-verdict.was)).most

pub returns : goal.returns
unfolding check_opening
returns c =
    open-done _ _ (then-goes _ c.verdict.ensures c.in_ok-verdict.was (sym (told-ok c.in_ok-single.was) ∙ c.single.ensures)) c.fresh.ensures
