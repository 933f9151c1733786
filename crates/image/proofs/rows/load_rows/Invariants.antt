-- After j turns the bits heard and the rows are those of the first j row words, and `good` says whether these are right.
use Rattle.std.proofs.Common.{◌≡◌, ◌+◌, ◌-◌, ◌≤◌}
use Rattle.words.specs.Word.{word_at}
use Rattle.words.specs.Bits.{pack}
use Rattle.words.specs.Array.{array}
use Rattle.words.specs.Count.{all}
use Rattle.image.specs.Layout.{rows_at}
use Rattle.image.specs.Rows.{heard_in, row_in, row_test}
use Rattle.image.proofs.rows.load_rows.Given as goal

abbrev pub invariant-loop-j : goal.invariant-loop-j
invariant-loop-j l =
    (l.j ≤ l.n)
    × (l.good ≡ all l.j (row_test (word_at l.s) l.front l.n))
    × (l.heard ≡ pack l.j (λ k. heard_in (word_at l.s (rows_at l.front l.n + k))))
    × (l.rows ≡ array l.j (λ k. row_in (word_at l.s (rows_at l.front l.n + k))))

abbrev pub decreases-loop-j : goal.decreases-loop-j
decreases-loop-j l = l.n - l.j
