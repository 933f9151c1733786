-- The first j view words are read.
use Rattle.std.proofs.Common.{◌≡◌, ◌+◌}
use Rattle.words.specs.Word.{word_at}
use Rattle.words.specs.Bits.{bit}
use Rattle.words.specs.Array.{array}
use Rattle.views.specs.ViewWord.{view_entry}
use Rattle.views.proofs.read.read_views.Given as goal

abbrev pub invariant-loop-j : goal.invariant-loop-j
invariant-loop-j l = l.this ≡ array l.j (λ k. view_entry l.n (bit l.controller k) (word_at l.read (l.n + k)))
