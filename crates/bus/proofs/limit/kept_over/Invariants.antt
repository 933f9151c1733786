-- After j turns a, s and b count the senders below j, and are no more than j.
use Prim.Native.Nat.{◌-◌, ◌≤◌}
use mathlib.Core.Path.{◌≡◌}
use mathlib.Core.Bool.{◌&&◌}
use Rattle.words.specs.Bits.{bit}
use Rattle.words.specs.Count.{count}
use Rattle.agreement.specs.Fault.{follows_in, half_in, breaker_in, unheard_in}
use Rattle.bus.specs.Senders.{senders_in}
use Rattle.bus.proofs.limit.kept_over.Given as goal

abbrev pub invariant-loop-j : goal.invariant-loop-j
invariant-loop-j l =
    (l.j ≤ l.n) × (l.m ≤ l.j) × (l.a ≤ l.j) × (l.s ≤ l.j) × (l.b ≤ l.j) × (l.m ≡ count l.j (bit l.view)) × (l.a ≡ count l.j (half_in (senders_in l.now) (senders_in l.then)))
    × (l.s ≡ count l.j (λ k. bit l.view k && breaker_in (follows_in l.cast) (senders_in l.now) (senders_in l.then) k)) × (l.b ≡ count l.j (λ k. bit l.view k && unheard_in (follows_in l.cast) (senders_in l.now) (senders_in l.then) k))

abbrev pub decreases-loop-j : goal.decreases-loop-j
decreases-loop-j l = l.n - l.j
