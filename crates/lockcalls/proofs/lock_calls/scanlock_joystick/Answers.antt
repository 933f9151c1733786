-- By the reading.
use Rattle.lockcalls.proofs.LockCallLaws.{joystick-refused, joystick-done}
use Rattle.lockcalls.proofs.lock_calls.scanlock_joystick.Goals as goal

pub returns-in-Ok : goal.returns-in-Ok
returns-in-Ok c = joystick-done _ _ c.in-Ok.ensures c.answer_with.ensures

pub returns-in-Err : goal.returns-in-Err
returns-in-Err c = joystick-refused _ _ c.in-Err.ensures c.into.ensures
