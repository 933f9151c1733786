-- After j turns the first j words are those of the read, and the rest is as it was.
use Prim.Native.Nat.{◌-◌, ◌≤◌}
use mathlib.Core.Path.{◌≡◌}
use lib.ListN.{length}
use Rattle.words.specs.Runs.{put_run}
use Rattle.bus.specs.Bus.{entry_read}
use Rattle.bus.proofs.arrivals.put_words.Given as goal

abbrev pub invariant-loop-j : goal.invariant-loop-j
invariant-loop-j l =
    (l.j ≤ l.n) × (length l.out ≡ length l.initial.out) × (l.out ≡ put_run l.initial.out l.at l.j (entry_read l.place l.i l.this l.before))

abbrev pub decreases-loop-j : goal.decreases-loop-j
decreases-loop-j l = l.n - l.j
