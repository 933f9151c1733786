-- A helper of the contracts of `count` and `fade` (src/round.rt), which this project's crates alone call: no contract of a function that outsiders
-- call rests on it.
-- The account of a module by lent arrays, without a view: its counters say whether it is in it, as in every accepted state.
use Rattle.std.specs.Prelude.{ℕ, List, get_or, leb, Float}
use Rattle.std.specs.Float.Ieee.{lt}
use Rattle.words.specs.Bits.{bit}
use Rattle.doubles.specs.Double.{of_words}
use Rattle.accounts.specs.Account.{counts, accounted}
use Rattle.accounts.specs.Fading.{scored, faded}
use Rattle.accounts.specs.declared.Account.{Account}

-- by counts: module j + 1 is in the view where its penalty is not over P
unfoldable pub account_in : ℕ → List ℕ → List ℕ → List ℕ → ℕ → Account
account_in p penalty reward returns j = counts (leb (get_or penalty j 0) p) (get_or penalty j 0) (get_or reward j 0) (get_or returns j 0)

-- the same after a round with this health vector
unfoldable pub counted_at : ℕ → ℕ → ℕ → ℕ → List ℕ → List ℕ → List ℕ → List ℕ → ℕ → Account
counted_at p r q health criticality penalty reward returns j =
    accounted p r q (get_or criticality j 0) (bit health j) (account_in p penalty reward returns j)

-- by scores, of which the two halves are lent as words: module j + 1 is in the view where its score is below the limit
unfoldable pub score_in : Float → List ℕ → List ℕ → List ℕ → ℕ → Account
score_in limit high low returns j =
    let score = of_words (get_or high j 0) (get_or low j 0) in
    scored (lt score limit) score (get_or returns j 0)

-- the same after a round with this health vector
unfoldable pub faded_at : Float → Float → ℕ → ℕ → List ℕ → List ℕ → List ℕ → ℕ → Account
faded_at factor limit q health high low returns j = faded factor limit q (bit health j) (score_in limit high low returns j)
