-- After j turns the arrays hold how far the first j words of each section are above their first, and `good` says whether these words are right; so
-- where all are, the arrays hold the counters.
use Rattle.std.proofs.Common.{◌≡◌, ◌-◌, ◌≤◌, false}
use Rattle.words.specs.Word.{word_at}
use Rattle.words.specs.Count.{all}
use Rattle.setup.specs.Layout.{front_words}
use Rattle.image.specs.Returns.{return_counts}
use Rattle.image.specs.Counters.{penalties, rewards}
use Rattle.image.proofs.CounterSectionLaws.{tests_at}
use Rattle.image.proofs.GapLaws.{gaps_to}
use Rattle.image.proofs.counters.load_counters.Given as goal

abbrev pub invariant-loop-j : goal.invariant-loop-j
invariant-loop-j l =
    (l.j ≤ l.n)
    × (l.good ≡ all l.j (tests_at (word_at l.s) l.n))
    × (l.penalty ≡ gaps_to (word_at l.s) (front_words false) l.n l.j penalties)
    × (l.reward ≡ gaps_to (word_at l.s) (front_words false) l.n l.j rewards)
    × (l.returns ≡ gaps_to (word_at l.s) (front_words false) l.n l.j return_counts)

abbrev pub decreases-loop-j : goal.decreases-loop-j
decreases-loop-j l =
    l.n - l.j
