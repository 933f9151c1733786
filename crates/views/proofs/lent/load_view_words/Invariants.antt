-- The first j view words are read.
use Rattle.std.proofs.Common.{◌≡◌, ◌+◌}
use Rattle.words.specs.Word.{word_at}
use Rattle.words.specs.Array.{array}
use Rattle.views.proofs.lent.load_view_words.Given as goal

abbrev pub invariant-loop-j : goal.invariant-loop-j
invariant-loop-j l = l.words ≡ array l.j (λ k. word_at l.s (l.at + k))
