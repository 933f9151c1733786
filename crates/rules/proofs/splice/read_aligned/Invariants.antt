-- After j turns the vector and the rows of this read are those below j, and in the other array the rows below j are aligned.
use Prim.Native.Nat.{◌-◌, ◌≤◌}
use mathlib.Core.Path.{◌≡◌}
use mathlib.Core.Bool.{cond}
use lib.ListN.{get_or}
use lib.Dec.{ltb}
use Rattle.words.specs.Bits.{bit, pack}
use Rattle.words.specs.Word.{word_at}
use Rattle.words.specs.Array.{array, replaced}
use Rattle.rules.specs.Hearing.{entry_of}
use Rattle.rules.proofs.splice.read_aligned.Given as goal

abbrev pub invariant-loop-j : goal.invariant-loop-j
invariant-loop-j l =
    (l.j ≤ l.n) × (l.heard ≡ pack l.j (λ k. (entry_of l.n (bit l.controller k) (word_at l.read k)).heard))
    × (l.this ≡ array l.j (λ k. (entry_of l.n (bit l.controller k) (word_at l.read k)).row))
    × (l.rows ≡ replaced l.j (λ k. cond (ltb k l.split) (get_or l.initial.rows k 0) (entry_of l.n (bit l.controller k) (word_at l.read k)).row) l.initial.rows)

abbrev pub decreases-loop-j : goal.decreases-loop-j
decreases-loop-j l =
    l.n - l.j
