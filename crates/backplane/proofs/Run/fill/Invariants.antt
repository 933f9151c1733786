-- After m turns the lines of the next m rounds are written.
use Prim.Native.Nat.{◌*◌, ◌≤◌}
use mathlib.Core.Path.{◌≡◌}
use Rattle.text.specs.Wrote.{Wrote}
use Rattle.backplane.specs.Run.{later}
use Rattle.backplane.specs.Output.{next_lines}
use Rattle.backplane.proofs.Run.fill.Given as goal

abbrev pub invariant-loop : goal.invariant-loop
invariant-loop l = (l.run ≡ later l.s l.initial.run l.counter) × (l.counter ≤ 64) × (l.at ≤ l.counter * 832) × Wrote l.initial.out 0 (next_lines l.s l.initial.run l.counter) l.out l.at
