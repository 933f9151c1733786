-- After j turns `some` says whether one of the first j places is not n.
use Prim.Native.Nat.{◌-◌, ◌≤◌}
use mathlib.Core.Path.{◌≡◌}
use mathlib.Core.Bool.{not}
use lib.ListN.{get_or}
use lib.Dec.{eqb}
use Rattle.words.specs.Count.{any}
use Rattle.rules.proofs.lag.is_skewed.Given as goal

abbrev pub invariant-loop-j : goal.invariant-loop-j
invariant-loop-j l = (l.j ≤ l.n) × (l.some ≡ any l.j (λ k. not (eqb (get_or l.places k 0) l.n)))

abbrev pub decreases-loop-j : goal.decreases-loop-j
decreases-loop-j l = l.n - l.j
