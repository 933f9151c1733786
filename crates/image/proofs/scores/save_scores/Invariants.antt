-- After j turns the first j pairs of halves and the first j return counts are written, and the rest is as it was.
use Rattle.std.proofs.Common.{◌≡◌, ◌+◌, ◌-◌, ◌/◌, ◌%◌, ◌≤◌, cond, eqb, length, get_or}
use Rattle.words.specs.Runs.{put_run}
use Rattle.image.specs.CounterSection.{counter_word}
use Rattle.image.proofs.scores.save_scores.Given as goal

abbrev pub invariant-loop-j : goal.invariant-loop-j
invariant-loop-j l =
    (l.j ≤ l.n) × (length l.out ≡ length l.initial.out)
    × (l.out ≡ put_run (put_run l.initial.out l.i (l.j + l.j) (λ k. cond (eqb (k % 2) 0) (get_or l.high (k / 2) 0) (get_or l.low (k / 2) 0))) l.l l.j (λ k. counter_word 15 k (get_or l.returns k 0)))

abbrev pub decreases-loop-j : goal.decreases-loop-j
decreases-loop-j l = l.n - l.j
