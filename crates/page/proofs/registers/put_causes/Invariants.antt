-- After i turns the first i words of the causes are written, and the rest is as it was.
use Rattle.std.proofs.Common.{◌≡◌, ◌-◌, ◌≤◌, length}
use Rattle.words.specs.Runs.{put_run}
use Rattle.page.specs.Page.{cause_word}
use Rattle.page.proofs.registers.put_causes.Given as goal

abbrev pub invariant-loop-i : goal.invariant-loop-i
invariant-loop-i l =
    (l.i ≤ 4) × (length l.page ≡ length l.initial.page) × (l.page ≡ put_run l.initial.page 4 l.i (cause_word l.causes))

abbrev pub decreases-loop-i : goal.decreases-loop-i
decreases-loop-i l = 4 - l.i
