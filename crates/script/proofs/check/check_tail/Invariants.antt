-- The scan from `from` on is the scan from here on, and the rounds so far are within their limit.
use Rattle.std.proofs.Common.{◌≡◌, ◌-◌, ◌≤◌}
use Rattle.script.specs.Words.{most_rounds}
use Rattle.script.specs.Check.{unscanned, scan}
use Rattle.script.proofs.check.check_tail.Given as goal

abbrev pub invariant-loop-at : goal.invariant-loop-at
invariant-loop-at l =
    (l.so_far.rounds ≤ most_rounds)
    × (scan l.s l.n l.cast (l.count - l.at) l.at l.so_far ≡ scan l.s l.n l.cast (l.count - l.from) l.from unscanned)
