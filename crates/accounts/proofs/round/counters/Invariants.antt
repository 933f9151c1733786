-- After j turns the view and the arrays hold the accounts below j.
use Prim.Native.Nat.{◌-◌, ◌≤◌}
use mathlib.Core.Path.{◌≡◌}
use Rattle.words.specs.Bits.{pack}
use Rattle.words.specs.Array.{array}
use Rattle.doubles.specs.Array.{doubles}
use Rattle.accounts.specs.Round.{accounted_at}
use Rattle.accounts.proofs.round.counters.Given as goal

abbrev pub invariant-loop-j : goal.invariant-loop-j
invariant-loop-j l =
    (l.j ≤ l.setup.n) × (l.view ≡ pack l.j (λ k. (accounted_at l.setup l.health l.c k).present))
    × (l.penalty ≡ array l.j (λ k. (accounted_at l.setup l.health l.c k).penalty))
    × (l.reward ≡ array l.j (λ k. (accounted_at l.setup l.health l.c k).reward))
    × (l.score ≡ doubles l.j (λ k. (accounted_at l.setup l.health l.c k).score))
    × (l.returns ≡ array l.j (λ k. (accounted_at l.setup l.health l.c k).returns))

abbrev pub decreases-loop-j : goal.decreases-loop-j
decreases-loop-j l = l.setup.n - l.j
