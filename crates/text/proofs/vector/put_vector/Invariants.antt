-- After j turns the first j bits are added.
use Prim.Native.Nat.{◌+◌, ◌≤◌}
use mathlib.Core.Path.{◌≡◌}
use mathlib.Core.List.{◌++◌}
use lib.ListN.{length}
use Rattle.text.specs.Text.{vector}
use Rattle.text.proofs.vector.put_vector.Given as goal

abbrev pub invariant-loop-j : goal.invariant-loop-j
invariant-loop-j g l =
    (l.j ≤ l.n) × (l.out.items ≡ l.initial.out.items ++ vector l.j l.v) × (length l.out.items ≡ length l.initial.out.items + l.j)
