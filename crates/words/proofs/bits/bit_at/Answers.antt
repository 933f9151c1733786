-- A shift by j divides by `2 ^ j`, so the test is the one of `bit`.
use Rattle.std.proofs.Common.{rules}
use Rattle.words.specs.Bits.{bit}
use Rattle.words.proofs.bits.bit_at.Goals as goal

pub returns : goal.returns
unfolding bit
returns c = search rules
