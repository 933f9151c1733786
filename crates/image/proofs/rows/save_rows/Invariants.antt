-- After j turns the first j row words are written, and the rest is as it was.
use Rattle.std.proofs.Common.{◌≡◌, ◌-◌, ◌≤◌, length, get_or}
use Rattle.words.specs.Runs.{put_run}
use Rattle.words.specs.Bits.{bit}
use Rattle.image.specs.Rows.{row_word}
use Rattle.image.proofs.rows.save_rows.Given as goal

abbrev pub invariant-loop-j : goal.invariant-loop-j
invariant-loop-j l =
    (l.j ≤ l.n) × (length l.out ≡ length l.initial.out) × (l.out ≡ put_run l.initial.out l.at l.j (λ k. row_word k (bit l.heard k) (get_or l.rows k 0)))

abbrev pub decreases-loop-j : goal.decreases-loop-j
decreases-loop-j l = l.n - l.j
