-- The lower half of the bits.
use mathlib.Core.Path.{ap}
use Prim.Native.Nat.{ℕ, ◌%◌, ◌^◌}
use Rattle.doubles.specs.Double.{low_word}
use Rattle.doubles.proofs.low_word.Goals as goal

pub returns : goal.returns
unfolding low_word
returns c = ap (λ (b : ℕ). b % 2 ^ 32) c.bits_of.ensures
