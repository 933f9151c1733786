-- After j turns the counters below j are those of the round, the others as they were.
use Prim.Native.Nat.{◌+◌, ◌-◌, ◌*◌, ◌/◌, ◌≤◌}
use mathlib.Core.Path.{◌≡◌}
use Rattle.words.specs.Bits.{pack}
use Rattle.words.specs.Array.{replaced}
use Rattle.accounts.specs.Lent.{counted_at}
use Rattle.accounts.proofs.round.count.Given as goal

abbrev pub invariant-loop-j : goal.invariant-loop-j
invariant-loop-j l =
    (l.j ≤ (l.n + 3) / 4 * 4)
    × (l.view ≡ pack l.j (λ k. (counted_at l.p l.r l.q l.health l.criticality l.initial.penalty l.initial.reward l.initial.returns k).present))
    × (l.penalty ≡ replaced l.j (λ k. (counted_at l.p l.r l.q l.health l.criticality l.initial.penalty l.initial.reward l.initial.returns k).penalty) l.initial.penalty)
    × (l.reward ≡ replaced l.j (λ k. (counted_at l.p l.r l.q l.health l.criticality l.initial.penalty l.initial.reward l.initial.returns k).reward) l.initial.reward)
    × (l.returns ≡ replaced l.j (λ k. (counted_at l.p l.r l.q l.health l.criticality l.initial.penalty l.initial.reward l.initial.returns k).returns) l.initial.returns)

abbrev pub decreases-loop-j : goal.decreases-loop-j
decreases-loop-j l =
    (l.n + 3) / 4 * 4 - l.j
