-- After j turns `good` says whether the entries below j are as they should be.
use Rattle.std.proofs.Common.{◌≡◌, ◌-◌, ◌≤◌, cond, ltb, leb, get_or}
use Rattle.words.specs.Count.{all}
use Rattle.words.proofs.array.bounded.Given as goal

abbrev pub invariant-loop-j : goal.invariant-loop-j
invariant-loop-j l = (l.j ≤ 16) × (l.good ≡ all l.j (λ k. leb (get_or l.a k 0) (cond (ltb k l.n) l.most 0)))

abbrev pub decreases-loop-j : goal.decreases-loop-j
decreases-loop-j l = 16 - l.j
