-- A helper of the contracts of `kept`, `turned` and `played` (src/step.rt), inner functions: no public contract rests on it.
-- A state as it is held by what `load_image` gives and the arrays that it fills, what rule 8 counts with, and rule 8 on these arrays.
use Rattle.std.specs.Prelude.{ℕ, ◌≡◌, List, get_or}
use Rattle.words.specs.Bits.{pack}
use Rattle.words.specs.Array.{array}
use Rattle.doubles.specs.Double.{high_word, low_word}
use Rattle.setup.specs.Limits.{fades}
use Rattle.setup.specs.declared.Limits.{Limits}
use Rattle.setup.specs.declared.Limits.TheVariants.{Counts, Fading}
use Rattle.accounts.specs.Lent.{account_in, counted_at, score_in, faded_at}
use Rattle.accounts.specs.Range.{InRange, CountRange}
use Rattle.accounts.specs.declared.Account.{Account}
use Rattle.changes.specs.declared.Books.{Books}
use Rattle.image.specs.Part.{first_of, second_of}
use Rattle.image.specs.declared.ImagePart.{ImagePart}
use Rattle.presence.specs.Step.{skew_of}
use Rattle.presence.specs.declared.State.{State}

-- what rules 1 to 7 need of a state, and the rounds left until a pending change takes effect; l holds the rows of the previous read
pub record HeldBy (st : State) (part : ImagePart) (l : List ℕ) : Type 0 where
  pub skew : part.skew ≡ skew_of st
  pub own : part.own ≡ st.own
  pub view : part.view ≡ st.counters.view
  pub heard : part.heard ≡ st.previous.heard
  pub latest : part.latest ≡ st.latest
  pub earlier : part.earlier ≡ st.earlier
  pub rows : l ≡ st.previous.rows
  pub left : part.left ≡ st.pending.left

-- what rule 8 counts with and what it counts: l are the limits, m is the return limit, k holds the criticalities, and x, y and z the accounts
pub record CountedBy (books : Books) (l : Limits) (m : ℕ) (k x y z : List ℕ) : Type 0 where
  pub limits : l ≡ books.setup.limits
  pub q : m ≡ books.setup.q
  pub criticality : k ≡ books.setup.criticality
  pub first : x ≡ first_of (fades books.setup.limits) books.setup.n books.counters
  pub second : y ≡ second_of (fades books.setup.limits) books.setup.n books.counters
  pub returns : z ≡ books.counters.returns

-- ---- rule 8 on the arrays, by the limits of the setup

-- what it is counted within
abbrev pub LentRange : Limits → ℕ → List ℕ → List ℕ → List ℕ → List ℕ → ℕ → Type 0
LentRange (Counts p r) q k x y z j = InRange p q (get_or k j 0) (account_in p x y z j)
LentRange (Fading factor limit) q k x y z j = CountRange q (score_in limit x y z j)

-- the account of module j + 1 after a round
unfoldable pub kept_at : Limits → ℕ → ℕ → List ℕ → List ℕ → List ℕ → List ℕ → ℕ → Account
kept_at (Counts p r) q health k x y z j = counted_at p r q health k x y z j
kept_at (Fading factor limit) q health k x y z j = faded_at factor limit q health x y z j

-- the two words or counters that are lent of an account
abbrev pub first_word : Limits → Account → ℕ
first_word (Counts p r) a = a.penalty
first_word (Fading factor limit) a = high_word a.score

abbrev pub second_word : Limits → Account → ℕ
second_word (Counts p r) a = a.reward
second_word (Fading factor limit) a = low_word a.score

-- the view and the arrays after a round
abbrev pub kept_view : Limits → ℕ → ℕ → ℕ → List ℕ → List ℕ → List ℕ → List ℕ → ℕ
kept_view limits n q health k x y z = pack n (λ j. (kept_at limits q health k x y z j).present)

abbrev pub kept_first : Limits → ℕ → ℕ → ℕ → List ℕ → List ℕ → List ℕ → List ℕ → List ℕ
kept_first limits n q health k x y z = array n (λ j. first_word limits (kept_at limits q health k x y z j))

abbrev pub kept_second : Limits → ℕ → ℕ → ℕ → List ℕ → List ℕ → List ℕ → List ℕ → List ℕ
kept_second limits n q health k x y z = array n (λ j. second_word limits (kept_at limits q health k x y z j))

abbrev pub kept_returns : Limits → ℕ → ℕ → ℕ → List ℕ → List ℕ → List ℕ → List ℕ → List ℕ
kept_returns limits n q health k x y z = array n (λ j. (kept_at limits q health k x y z j).returns)
