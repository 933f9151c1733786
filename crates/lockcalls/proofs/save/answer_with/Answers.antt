-- The joystick as a number.
use Rattle.lockcalls.proofs.LockCallLaws.{answer-made}
use Rattle.lockcalls.proofs.save.answer_with.Goals as goal

pub returns : goal.returns
returns c = answer-made _ _ c.joystick.ensures c.flag.ensures.0
