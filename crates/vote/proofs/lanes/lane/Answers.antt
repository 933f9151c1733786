-- A shift by k, and every fourth bit of what is left.
use Prim.Native.Nat.{◌/◌, ◌^◌}
use lib.Bits.{and_le_r}
use Rattle.vote.proofs.EveryFourthLaws.{lane-bits}
use Rattle.vote.proofs.lanes.lane.Goals as goal

pub returns : goal.returns
returns c = (lane-bits c.args.row c.args.k, and_le_r (c.args.row / 2 ^ c.args.k) 4369)
