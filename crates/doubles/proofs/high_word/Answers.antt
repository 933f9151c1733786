-- The upper half of the bits.
use mathlib.Core.Path.{ap}
use Prim.Native.Nat.{ℕ, ◌/◌, ◌^◌}
use Rattle.doubles.specs.Double.{high_word}
use Rattle.doubles.proofs.high_word.Goals as goal

pub returns : goal.returns
unfolding high_word
returns c = ap (λ (b : ℕ). b / 2 ^ 32) c.bits_of.ensures
