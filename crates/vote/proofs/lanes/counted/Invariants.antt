-- After l turns the four lanes hold the counts of the first l rows, none of them more than l.
use Prim.Native.Nat.{◌-◌, ◌*◌, ◌≤◌}
use mathlib.Core.Path.{◌≡◌}
use Rattle.words.specs.Bits.{bit}
use Rattle.words.specs.Count.{count}
use Rattle.vote.specs.Lanes.{lane_of, ones_on}
use Rattle.vote.proofs.lanes.counted.Given as goal

abbrev pub invariant-loop-l : goal.invariant-loop-l
invariant-loop-l l =
    (l.l ≤ l.n) × (l.a ≤ l.l * 4369) × (l.b ≤ l.l * 4369) × (l.c ≤ l.l * 4369) × (l.d ≤ l.l * 4369) × (l.present ≤ l.l)
    × (l.a ≡ lane_of 0 (ones_on l.l l.voters l.rows)) × (l.b ≡ lane_of 1 (ones_on l.l l.voters l.rows)) × (l.c ≡ lane_of 2 (ones_on l.l l.voters l.rows))
    × (l.d ≡ lane_of 3 (ones_on l.l l.voters l.rows)) × (l.present ≡ count l.l (bit l.voters))

abbrev pub decreases-loop-l : goal.decreases-loop-l
decreases-loop-l l = l.n - l.l
