-- After j turns the first j module words are written, and the rest is as it was.
use Rattle.std.proofs.Common.{◌≡◌, ◌-◌, ◌≤◌, length, get_or}
use Rattle.words.specs.Runs.{put_run}
use Rattle.words.specs.Bits.{bit}
use Rattle.setup.specs.Setup.{module_word}
use Rattle.setup.proofs.write.write_modules.Given as goal

abbrev pub invariant-loop-j : goal.invariant-loop-j
invariant-loop-j l =
    (l.j ≤ l.n)
    × (length l.out ≡ length l.initial.out)
    × (l.out ≡ put_run l.initial.out l.front l.j (λ k. module_word k (bit l.fn.setup.marks k) (get_or l.fn.setup.places k 0) (get_or l.fn.setup.criticality k 0)))

abbrev pub decreases-loop-j : goal.decreases-loop-j
decreases-loop-j l = l.n - l.j
