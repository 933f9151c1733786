-- After j turns the first j entries are the doubles of the first j pairs of halves.
use Rattle.std.proofs.Common.{◌≡◌, ◌-◌, ◌≤◌, get_or}
use Rattle.doubles.specs.Double.{of_words}
use Rattle.doubles.specs.Array.{doubles}
use Rattle.image.proofs.lent.joined.Given as goal

abbrev pub invariant-loop-j : goal.invariant-loop-j
invariant-loop-j l = (l.j ≤ l.n) × (l.score ≡ doubles l.j (λ k. of_words (get_or l.high k 0) (get_or l.low k 0)))

abbrev pub decreases-loop-j : goal.decreases-loop-j
decreases-loop-j l = l.n - l.j
