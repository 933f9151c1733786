-- `good` says whether the first j view words are right.
use Rattle.std.proofs.Common.{◌≡◌, ◌+◌}
use Rattle.words.specs.Word.{word_at}
use Rattle.words.specs.Count.{all}
use Rattle.views.specs.Section.{view_ok}
use Rattle.views.proofs.section.views_right.Given as goal

abbrev pub invariant-loop-j : goal.invariant-loop-j
invariant-loop-j l = l.good ≡ all l.j (λ k. view_ok l.n (word_at l.s (l.at + k)))
