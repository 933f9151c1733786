-- After j turns the halves of the scores and the return counts below j are those of the round, the others as they were.
use Prim.Native.Nat.{◌-◌, ◌≤◌}
use mathlib.Core.Path.{◌≡◌}
use Rattle.words.specs.Bits.{pack}
use Rattle.words.specs.Array.{replaced}
use Rattle.doubles.specs.Double.{high_word, low_word}
use Rattle.accounts.specs.Lent.{faded_at}
use Rattle.accounts.proofs.round.fade.Given as goal

abbrev pub invariant-loop-j : goal.invariant-loop-j
invariant-loop-j l =
    (l.j ≤ l.n)
    × (l.view ≡ pack l.j (λ k. (faded_at l.factor l.limit l.q l.health l.initial.high l.initial.low l.initial.returns k).present))
    × (l.high ≡ replaced l.j (λ k. high_word (faded_at l.factor l.limit l.q l.health l.initial.high l.initial.low l.initial.returns k).score) l.initial.high)
    × (l.low ≡ replaced l.j (λ k. low_word (faded_at l.factor l.limit l.q l.health l.initial.high l.initial.low l.initial.returns k).score) l.initial.low)
    × (l.returns ≡ replaced l.j (λ k. (faded_at l.factor l.limit l.q l.health l.initial.high l.initial.low l.initial.returns k).returns) l.initial.returns)

abbrev pub decreases-loop-j : goal.decreases-loop-j
decreases-loop-j l = l.n - l.j
