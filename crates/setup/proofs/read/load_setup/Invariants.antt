-- After j turns marks, places and criticalities are those of the first j module words, and `good` says whether these are right.
use Rattle.std.proofs.Common.{◌≡◌, ◌+◌, ◌-◌, ◌≤◌}
use Rattle.words.specs.Word.{word_at}
use Rattle.words.specs.Count.{all}
use Rattle.setup.specs.Modules.{module_right}
use Rattle.setup.proofs.SetupReadLaws.{ModulesRead}
use Rattle.setup.proofs.read.load_setup.Given as goal

abbrev pub invariant-loop-j : goal.invariant-loop-j
invariant-loop-j l =
    (l.j ≤ l.n) × (l.good ≡ all l.j (λ k. module_right l.n k (word_at l.s (l.front + k)))) × ModulesRead l.s l.front l.j l.marks l.places l.criticality

abbrev pub decreases-loop-j : goal.decreases-loop-j
decreases-loop-j l =
    l.n - l.j
