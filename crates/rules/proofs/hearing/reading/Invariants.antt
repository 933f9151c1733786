-- After j turns the vector and the array hold the entries below j.
use Prim.Native.Nat.{◌-◌, ◌≤◌}
use mathlib.Core.Path.{◌≡◌}
use Rattle.words.specs.Bits.{bit, pack}
use Rattle.words.specs.Word.{word_at}
use Rattle.words.specs.Array.{array}
use Rattle.rules.specs.Hearing.{entry_of}
use Rattle.rules.proofs.hearing.reading.Given as goal

abbrev pub invariant-loop-j : goal.invariant-loop-j
invariant-loop-j l =
    (l.j ≤ l.n) × (l.heard ≡ pack l.j (λ k. (entry_of l.n (bit l.controller k) (word_at l.read k)).heard))
    × (l.rows ≡ array l.j (λ k. (entry_of l.n (bit l.controller k) (word_at l.read k)).row))

abbrev pub decreases-loop-j : goal.decreases-loop-j
decreases-loop-j l = l.n - l.j
