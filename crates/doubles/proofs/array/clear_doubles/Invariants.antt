-- After j turns `good` says whether the entries below j are doubles, and 0.0 where they are not in use.
use Prim.Native.Nat.{◌-◌, ◌≤◌}
use mathlib.Core.Path.{◌≡◌}
use mathlib.Core.Bool.{◌&&◌, ◌||◌}
use lib.Dec.{eqb, ltb}
use lib.Ieee.{binary64, to_bits}
use Rattle.words.specs.Count.{all}
use Rattle.doubles.specs.Double.{is_double}
use Rattle.doubles.specs.Array.{entry}
use Rattle.doubles.proofs.array.clear_doubles.Given as goal

abbrev pub invariant-loop-j : goal.invariant-loop-j
invariant-loop-j l = (l.j ≤ 16) × (l.good ≡ all l.j (λ k. is_double (entry l.a k) && (ltb k l.n || eqb (to_bits binary64 (entry l.a k)) 0)))

abbrev pub decreases-loop-j : goal.decreases-loop-j
decreases-loop-j l = 16 - l.j
