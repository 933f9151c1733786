-- The words from here on tell what the words from `from` on tell.
use Prim.Native.Nat.{◌-◌}
use mathlib.Core.Path.{◌≡◌}
use Rattle.script.specs.Events.{none}
use Rattle.script.specs.Cursor.{gather}
use Rattle.script.proofs.play.next_play.Given as goal

abbrev pub invariant-loop-at : goal.invariant-loop-at
invariant-loop-at l = gather l.s (l.count - l.at) l.at l.due l.events ≡ gather l.s (l.count - l.from) l.from 0 none
