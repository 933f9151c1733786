-- After k turns k parts are written, and the run has come to the rounds of part k.
use Prim.Native.Nat.{◌+◌, ◌-◌, ◌*◌, ◌≤◌}
use mathlib.Core.Path.{◌≡◌}
use lib.ListN.{length}
use Rattle.script.specs.Rounds.{rounds_of}
use Rattle.backplane.specs.Run.{run_at}
use Rattle.bench.proofs.write_rounds.Given as goal

abbrev pub invariant-loop-out : goal.invariant-loop-out
invariant-loop-out l =
    (l.now ≡ run_at l.script (l.written.parts * 64)) × (l.written.parts * 64 ≤ rounds_of l.script + 64) × (length l.out ≡ 53248)

abbrev pub decreases-loop-out : goal.decreases-loop-out
decreases-loop-out l = rounds_of l.script + 64 - l.written.parts * 64
