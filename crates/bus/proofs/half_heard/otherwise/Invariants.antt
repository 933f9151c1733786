-- After i turns `some` says whether one of the first i modules has another word.
use Prim.Native.Nat.{◌+◌, ◌-◌, ◌*◌, ◌≤◌}
use mathlib.Core.Path.{◌≡◌}
use mathlib.Core.Bool.{not, ◌&&◌}
use lib.Dec.{eqb}
use lib.ListN.{get_or}
use Rattle.words.specs.Bits.{bit}
use Rattle.words.specs.Count.{any}
use Rattle.bus.proofs.half_heard.otherwise.Given as goal

abbrev pub invariant-loop-i : goal.invariant-loop-i
invariant-loop-i l = (l.i ≤ l.n) × (l.some ≡ any l.i (λ k. not (bit l.cast k) && not (eqb (get_or l.heard (k * 16 + l.j) 0) l.w)))

abbrev pub decreases-loop-i : goal.decreases-loop-i
decreases-loop-i l = l.n - l.i
