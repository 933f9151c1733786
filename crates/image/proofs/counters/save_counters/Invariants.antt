-- After j turns the first j words of the three sections are written, and the rest is as it was.
use Rattle.std.proofs.Common.{◌≡◌, ◌-◌, ◌≤◌, length, get_or}
use Rattle.words.specs.Runs.{put_run}
use Rattle.image.specs.CounterSection.{counter_word}
use Rattle.image.proofs.counters.save_counters.Given as goal

abbrev pub invariant-loop-j : goal.invariant-loop-j
invariant-loop-j l =
    (l.j ≤ l.n) × (length l.out ≡ length l.initial.out)
    × (l.out ≡ put_run (put_run (put_run l.initial.out l.i l.j (λ m. counter_word 13 m (get_or l.penalty m 0))) l.k l.j (λ m. counter_word 14 m (get_or l.reward m 0))) l.l l.j (λ m. counter_word 15 m (get_or l.returns m 0)))

abbrev pub decreases-loop-j : goal.decreases-loop-j
decreases-loop-j l =
    l.n - l.j
