-- After q turns the vector holds the votes on the first 4q modules, by the counts in the lanes; those below n are the votes of the definition.
use Prim.Native.Nat.{◌+◌, ◌-◌, ◌*◌, ◌/◌, ◌<◌}
use mathlib.Core.Path.{◌≡◌}
use Rattle.words.specs.Bits.{pack}
use Rattle.vote.specs.Lanes.{decided_by}
use Rattle.vote.proofs.health.health_by.Given as goal

abbrev pub invariant-loop-q : goal.invariant-loop-q
invariant-loop-q l = (l.q * 4 < l.n + 4) × (l.acc ≡ pack (l.q * 4) (decided_by l.present l.lanes l.voters l.own))

abbrev pub decreases-loop-q : goal.decreases-loop-q
decreases-loop-q l = (l.n + 3) / 4 - l.q
