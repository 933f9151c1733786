-- After j turns `good`, `skew` and the criticalities are those of the first j module words.
use Rattle.std.proofs.Common.{◌≡◌, ◌+◌, ◌-◌, ◌≤◌, not, eqb}
use Rattle.words.specs.Word.{word_at}
use Rattle.words.specs.Array.{array}
use Rattle.words.specs.Count.{all, any}
use Rattle.setup.specs.Setup.{criticality_in}
use Rattle.setup.specs.Modules.{module_right, marked_place}
use Rattle.setup.proofs.modules.load_modules.Given as goal

abbrev pub invariant-loop-j : goal.invariant-loop-j
invariant-loop-j l =
    (l.j ≤ l.n)
    × (l.good ≡ all l.j (λ k. module_right l.n k (word_at l.s (l.front + k))))
    × (l.skew ≡ any l.j (λ k. not (eqb (marked_place k (word_at l.s (l.front + k))) l.n)))
    × (l.criticality ≡ array l.j (λ k. criticality_in (word_at l.s (l.front + k))))

abbrev pub decreases-loop-j : goal.decreases-loop-j
decreases-loop-j l = l.n - l.j
