-- After i turns the lines of the first i modules are added.
use Prim.Native.Nat.{◌+◌, ◌*◌, ◌≤◌}
use mathlib.Core.Path.{◌≡◌}
use mathlib.Core.List.{◌++◌}
use lib.ListN.{get_or, length}
use Rattle.text.specs.Lines.{lines_of}
use Rattle.text.proofs.line.add_lines.Given as goal

abbrev pub invariant-loop-i : goal.invariant-loop-i
invariant-loop-i g l =
    (l.i ≤ l.n) × (l.out.items ≡ l.initial.out.items ++ lines_of l.n l.fn.round l.kept (λ j. get_or l.health j 0) (λ j. get_or l.view j 0) l.i)
    × (length l.out.items ≤ length l.initial.out.items + l.i * 52)
