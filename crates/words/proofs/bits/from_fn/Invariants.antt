-- After j turns the vector has j bits, which are what `bit` said, whatever function says the same.
use Rattle.std.proofs.Common.{◌≡◌, ℕ, ◌^◌, ◌<◌, Bool}
use Rattle.words.specs.Bits.{pack}
use Rattle.words.proofs.bits.from_fn.Given as goal

abbrev pub invariant-loop-j : goal.invariant-loop-j
invariant-loop-j g l =
    (l.acc < 2 ^ l.j) × ((f : ℕ → Bool) → ((k : ℕ) (b : Bool) → k < l.n → goal.F-post g l.bit k b → b ≡ f k) → l.acc ≡ pack l.j f)
