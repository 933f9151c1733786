-- After j turns the array is what `entry` said, below j, and 0 from j on, whatever function says the same.
use Rattle.std.proofs.Common.{◌≡◌, ℕ, ◌<◌}
use Rattle.words.specs.Array.{array}
use Rattle.words.proofs.array.from_fn.Given as goal

abbrev pub invariant-loop-j : goal.invariant-loop-j
invariant-loop-j g l = (f : ℕ → ℕ) → ((k w : ℕ) → k < l.n → goal.F-post g l.entry k w → w ≡ f k) → l.a ≡ array l.j f
