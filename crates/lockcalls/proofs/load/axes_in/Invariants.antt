-- After i turns the axes below i are read.
use Prim.Native.Nat.{◌+◌, ◌-◌, ◌≤◌}
use mathlib.Core.Path.{◌≡◌}
use lib.ListN.{replicate}
use Rattle.words.specs.Word.{word_at}
use Rattle.words.specs.Table.{updated}
use Rattle.scanlock.specs.Axis.{free}
use Rattle.lockcalls.specs.LockImage.{axis_in}
use Rattle.lockcalls.proofs.load.axes_in.Given as goal

abbrev pub invariant-loop-i : goal.invariant-loop-i
invariant-loop-i l = (l.i ≤ 8) × (l.axes ≡ updated l.i (λ k. axis_in (word_at l.image (k + 1))) (replicate 8 free))

abbrev pub decreases-loop-i : goal.decreases-loop-i
decreases-loop-i l = 8 - l.i
