-- Both halves as one number of 64 bits.
use mathlib.Core.Path.{ap₂, ◌∙◌}
use Prim.Native.Nat.{ℕ, ◌+◌, ◌*◌, ◌^◌}
use lib.Ieee.{of_bits, binary64}
use Rattle.doubles.specs.Double.{of_words}
use Rattle.doubles.proofs.of_words.Goals as goal

pub returns : goal.returns
unfolding of_words
returns c = c.double_of.ensures ∙ ap₂ (λ (x y : ℕ). of_bits binary64 (x * 2 ^ 32 + y)) c.wide.ensures c.wide-2.ensures
