-- After i turns the axes below i have taken the view, and the others are as they were.
use Prim.Native.Nat.{◌-◌, ◌≤◌}
use mathlib.Core.Path.{◌≡◌}
use lib.ListN.{get_or, length}
use Rattle.words.specs.Table.{updated}
use Rattle.scanlock.specs.Axis.{free, lost_of}
use Rattle.scanlock.proofs.events.seen_axes.Given as goal

abbrev pub invariant-loop-i : goal.invariant-loop-i
invariant-loop-i l = (l.i ≤ 8) × (length l.initial.next ≡ 8) × (l.next ≡ updated l.i (λ k. lost_of l.view (get_or l.initial.next k free)) l.initial.next)

abbrev pub decreases-loop-i : goal.decreases-loop-i
decreases-loop-i l = 8 - l.i
