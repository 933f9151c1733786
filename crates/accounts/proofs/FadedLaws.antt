-- Rule 8 by fading scores on lent arrays: the accounts are those of the definition.
use mathlib.Core.Path.{◌≡◌, sym, ap, ◌∙◌}
use mathlib.Core.Bool.{Bool}
use mathlib.Core.List.{List}
use Prim.Native.Nat.{ℕ, ◌<◌, ◌≤◌}
use native.Mathlib.Omega.{arith}
use lib.ListN.{get_or, replicate}
use lib.Ieee.{Float, lt}
use Rattle.words.specs.Bits.{bit, pack}
use Rattle.words.specs.Array.{array, replaced, Filled}
use Rattle.words.proofs.BitLaws.{pack-end, pack-ext}
use Rattle.words.proofs.ArrayLaws.{array-ext, replaced-array}
use Rattle.doubles.specs.Double.{of_words, high_word, low_word}
use Rattle.doubles.specs.Array.{entry, doubles}
use Rattle.doubles.proofs.DoubleArrayLaws.{doubles-ext}
use Rattle.setup.specs.declared.Setup.{Setup}
use Rattle.setup.specs.declared.Limits.TheVariants.{Fading}
use Rattle.accounts.specs.declared.Account.{Account}
use Rattle.accounts.specs.declared.Counters.{Counters}
use Rattle.accounts.specs.Fading.{faded}
use Rattle.accounts.specs.Round.{account_at, accounted_at, counters_of}
use Rattle.accounts.specs.Lent.{score_in, faded_at}
use Rattle.accounts.specs.Range.{CountRange}
use Rattle.accounts.proofs.RoundLaws.{fading-at, penalties-none, rewards-none}
use Rattle.accounts.proofs.CountedLaws.{ahead}

-- x and y are the arrays of the high and the low halves of the scores, z that of the return counts
module _ (limit : Float) (x y z : List ℕ) where
  pub score-read : {u : Float} {w : ℕ} (j : ℕ) → u ≡ of_words (get_or x j 0) (get_or y j 0) → w ≡ get_or z j 0
      → record { present = lt u limit; penalty = 0; reward = 0; score = u; returns = w } ≡ score_in limit x y z j
  unfolding score_in
  score-read j eu ew = rw (eu, ew)

  pub faded-by : {u : Float} {w : ℕ} {b : Bool} {t : Account} (factor : Float) (q health j : ℕ) → u ≡ of_words (get_or x j 0) (get_or y j 0) → w ≡ get_or z j 0
      → b ≡ bit health j → t ≡ faded factor limit q b (record { present = lt u limit; penalty = 0; reward = 0; score = u; returns = w })
      → t ≡ faded_at factor limit q health x y z j
  unfolding faded_at
  faded-by factor q health j eu ew eb e = rw (eb, score-read j eu ew) at e

-- the score whose halves a loop replaces next
pub score-ahead : {l m : List ℕ} {u : Float} (x y : List ℕ) (j : ℕ) (f g : ℕ → ℕ) → l ≡ replaced j f x → m ≡ replaced j g y
    → u ≡ of_words (get_or l j 0) (get_or m j 0) → u ≡ of_words (get_or x j 0) (get_or y j 0)
score-ahead x y j f g ex ey e = e ∙ (λ i. of_words (ahead x j f ex i) (ahead y j g ey i))

-- after all turns
module _ (n m : ℕ) (e : m ≡ n) (small : n ≤ 16) (f : ℕ → Account) where
  turned : {l : List ℕ} (a : List ℕ) (of : Account → ℕ) → Filled n a → l ≡ replaced m (λ j. of (f j)) a → l ≡ array n (λ j. of (f j))
  turned a of fill g = replaced-array n n (λ j. of (f j)) a (omega arith) small fill (λ i h l. absurd (omega arith)) (rw e at g)

  pub faded-all : {v : ℕ} {l l' l'' : List ℕ} (x y z : List ℕ) → Filled n x → Filled n y → Filled n z → v ≡ pack m (λ j. (f j).present)
      → l ≡ replaced m (λ j. high_word (f j).score) x → l' ≡ replaced m (λ j. low_word (f j).score) y → l'' ≡ replaced m (λ j. (f j).returns) z
      → (v ≡ pack n (λ j. (f j).present)) × (l ≡ array n (λ j. high_word (f j).score)) × (l' ≡ array n (λ j. low_word (f j).score))
      × (l'' ≡ array n (λ j. (f j).returns))
  faded-all x y z fx fy fz ev ex ey ez = (
    pack-end (λ j. (f j).present) e ev,
    turned x (λ a. high_word a.score) fx ex,
    turned y (λ a. low_word a.score) fy ey,
    turned z (λ a. a.returns) fz ez,
  )

-- ---- counters

-- are in range where those of the definition are
pub score-range : (limit : Float) (q : ℕ) (x y : List ℕ) (c : Counters) (j : ℕ) → CountRange q (account_at c j) → CountRange q (score_in limit x y c.returns j)
unfolding account_at score_in
score-range limit q x y c j f = record { returns = f.returns; below = f.below }

-- and those whose view goes by their scores fade as the definition has it; x and y have the halves of the scores
module _ (s : Setup) (factor limit : Float) (e : s.limits ≡ Fading factor limit) (health : ℕ) (c : Counters) (x y : List ℕ) where
  abbrev after : ℕ → Account
  after j = faded_at factor limit s.q health x y c.returns j

  faded-is : (j : ℕ) → entry c.score j ≡ of_words (get_or x j 0) (get_or y j 0) → bit c.view j ≡ lt (entry c.score j) limit
      → after j ≡ accounted_at s health c j
  unfolding faded_at account_at score_in faded
  faded-is j h v = rw (fading-at s factor limit e health c j, v, h)

  pub faded-counters : s.n ≤ 16 → ((j : ℕ) → j < s.n → (account_at c j).score ≡ of_words (get_or x j 0) (get_or y j 0))
      → ((j : ℕ) → j < s.n → (account_at c j).present ≡ lt (account_at c j).score limit)
      → record {
        view = pack s.n (λ j. (after j).present);
        penalty = replicate 16 0;
        reward = replicate 16 0;
        score = doubles s.n (λ j. (after j).score);
        returns = array s.n (λ j. (after j).returns);
      } ≡ counters_of s health c
  unfolding counters_of account_at
  faded-counters small halves v =
      let same : (j : ℕ) → j < s.n → after j ≡ accounted_at s health c j = λ j h. faded-is j (halves j h) (v j h) in
      λ i. record {
        view = pack-ext s.n _ _ (λ j h. ap (λ (a : Account). a.present) (same j h)) i;
        penalty = sym (penalties-none s factor limit e health c small) i;
        reward = sym (rewards-none s factor limit e health c small) i;
        score = doubles-ext s.n _ _ (λ j h. ap (λ (a : Account). a.score) (same j h)) i;
        returns = array-ext s.n _ _ (λ j h. ap (λ (a : Account). a.returns) (same j h)) i;
      }
