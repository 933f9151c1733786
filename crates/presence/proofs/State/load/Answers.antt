-- An accepted image gives its state, and another the answer of the check.
use Rattle.std.proofs.Common.{◌∙◌}
use Rattle.words.proofs.RefusalLaws.{told-on}
use Rattle.presence.specs.Image.{state_of}
use Rattle.presence.proofs.LoadLaws.{loaded-some}
use Rattle.presence.proofs.StateAnswers.{load-refused, load-accepted}
use Rattle.presence.proofs.State.load.Goals as goal

pub returns-in-Some : goal.returns-in-Some
returns-in-Some c =
    let (e, t) = loaded-some (state_of c.args.image.now) c.accepted.ensures c.in-Some.is in
    load-accepted c.args.image.now e t

pub returns-in-None : goal.returns-in-None
returns-in-None c = load-refused c.args.image.now _ (told-on c.unwrap_err.ensures ∙ c.check_image.ensures)
