-- A word is heard where reading it says so.
use mathlib.Core.Path.{ap, ◌∙◌}
use mathlib.Core.Bool.{Bool, cond}
use Rattle.rules.specs.Hearing.{is_heard, entry_of}
use Rattle.rules.proofs.ReceptionLaws.{ok-heard}
use Rattle.bus.specs.Heard.{heard_word}
use Rattle.bus.proofs.half_heard.heard_word.Goals as goal

pub returns : goal.returns
unfolding heard_word entry_of
returns c =
    let a = c.args in
    c.pick.ensures ∙ ap (λ (b : Bool). cond b a.w 0) (c.is_ok.ensures.value ∙ ok-heard _ ∙ ap is_heard c.receive.ensures)
