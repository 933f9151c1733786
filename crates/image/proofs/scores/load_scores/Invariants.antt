-- After j turns the arrays hold the first j high halves and low halves, and how far the first j words of the return counts are above their first, and
-- `good` says whether these words are right; so where all are, the third array holds the return counts.
use Rattle.std.proofs.Common.{◌≡◌, ◌+◌, ◌-◌, ◌*◌, ◌≤◌, true}
use Rattle.words.specs.Word.{word_at}
use Rattle.words.specs.Array.{array}
use Rattle.words.specs.Count.{all}
use Rattle.setup.specs.Layout.{front_words}
use Rattle.image.specs.Layout.{accounts_at}
use Rattle.image.specs.Returns.{return_counts}
use Rattle.image.proofs.GapLaws.{gaps_to}
use Rattle.image.proofs.HalfLaws.{scored_at}
use Rattle.image.proofs.scores.load_scores.Given as goal

abbrev pub invariant-loop-j : goal.invariant-loop-j
invariant-loop-j l =
    (l.j ≤ l.n)
    × (l.good ≡ all l.j (scored_at (word_at l.s) l.n))
    × (l.high ≡ array l.j (λ k. word_at l.s (accounts_at (front_words true) l.n + 2 * k)))
    × (l.low ≡ array l.j (λ k. word_at l.s (accounts_at (front_words true) l.n + 2 * k + 1)))
    × (l.returns ≡ gaps_to (word_at l.s) (front_words true) l.n l.j return_counts)

abbrev pub decreases-loop-j : goal.decreases-loop-j
decreases-loop-j l = l.n - l.j
