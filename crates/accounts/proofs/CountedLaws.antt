-- Rule 8 by counts on lent arrays: the accounts of modules past n, which are taken along, stay as they are, and the accounts of the others are those
-- of the definition.
use mathlib.Core.Path.{◌≡◌, refl, ap, ◌∙◌, sym}
use mathlib.Core.Bool.{Bool, true}
use mathlib.Core.List.{List}
use Prim.Native.Nat.{ℕ, ◌+◌, ◌-◌, ◌%◌, ◌^◌, ◌<◌, ◌≤◌}
use native.Mathlib.Omega.{arith}
use native.Mathlib.Decide.{dec_lt}
use lib.ListN.{get_or}
use lib.Dec.{leb}
use lib.Ieee.{binary64, of_bits}
use borrow.Author.Tests.{le-leb}
use Rattle.words.specs.Bits.{bit, pack}
use Rattle.words.specs.Array.{array, replaced, Filled}
use Rattle.words.proofs.BitLaws.{bit_high, pack-ext, pack-low}
use Rattle.words.proofs.ArrayLaws.{array-ext, filled-above, replaced-ahead, replaced-array}
use Rattle.doubles.specs.Array.{zeros}
use Rattle.doubles.proofs.Rounding.{zero_bits}
use Rattle.setup.specs.declared.Setup.{Setup}
use Rattle.setup.specs.declared.Limits.TheVariants.{Counts}
use Rattle.accounts.specs.declared.Account.{Account}
use Rattle.accounts.specs.declared.Counters.{Counters}
use Rattle.accounts.specs.Account.{uncounted, charged, rewarded, accounted}
use Rattle.accounts.specs.Round.{account_at, accounted_at, counters_of}
use Rattle.accounts.specs.Lent.{account_in, counted_at}
use Rattle.accounts.specs.Range.{InRange}
use Rattle.accounts.proofs.RoundLaws.{counts-at, scores-none}

-- x, y and z are the arrays of the penalties, the rewards and the return counts
module _ (p : ℕ) (x y z : List ℕ) where
  pub account-read : {u v w : ℕ} (j : ℕ) → u ≡ get_or x j 0 → v ≡ get_or y j 0 → w ≡ get_or z j 0
      → record { present = leb u p; penalty = u; reward = v; score = of_bits binary64 0; returns = w } ≡ account_in p x y z j
  unfolding account_in
  account-read j eu ev ew = rw (eu, ev, ew, zero_bits)

  pub counted-by : {u v w : ℕ} {b : Bool} {t : Account} (r q health : ℕ) (k : List ℕ) (j : ℕ) → u ≡ get_or x j 0 → v ≡ get_or y j 0 → w ≡ get_or z j 0 → b ≡ bit health j
      → t ≡ accounted p r q (get_or k j 0) b (record { present = leb u p; penalty = u; reward = v; score = of_bits binary64 0; returns = w })
      → t ≡ counted_at p r q health k x y z j
  unfolding counted_at
  counted-by r q health k j eu ev ew eb e = rw (eb, account-read j eu ev ew) at e

-- the entry that a loop replaces next
pub ahead : {l : List ℕ} (a : List ℕ) (j : ℕ) (f : ℕ → ℕ) → l ≡ replaced j f a → get_or l j 0 ≡ get_or a j 0
ahead a j f e = rw e (replaced-ahead j f a j (omega arith))

-- k is the array of the criticalities
module _ (n p r q health : ℕ) (k x y z : List ℕ) (h : health < 2 ^ n) (fk : Filled n k) (fx : Filled n x) (fy : Filled n y) (fz : Filled n z) where
  abbrev none : Account
  none = uncounted true 0 0

  nothing : (j : ℕ) → n ≤ j → j < 16 → account_in p x y z j ≡ none
  unfolding account_in
  nothing j l m = rw (filled-above n x fx j l m, filled-above n y fy j l m, filled-above n z fz j l m, le-leb 0 p (omega arith))

  -- every module that is taken along is in range
  pub all-range : ((j : ℕ) → j < n → InRange p q (get_or k j 0) (account_in p x y z j)) → (j : ℕ) → j < 16 → InRange p q (get_or k j 0) (account_in p x y z j)
  all-range f j m = go (dec_lt j n)
    where
      go : Dec (j < n) → InRange p q (get_or k j 0) (account_in p x y z j)
      go (yes l) = f j l
      go (no l) =
          rw (nothing j (omega arith) m, filled-above n k fk j (omega arith) m)
          (record {
            penalty = omega arith;
            charge = omega arith;
            reward = omega arith;
            returns = omega arith;
            present = sym (le-leb 0 p (omega arith));
            below = omega arith;
          })

  -- and those past n stay without counters
  stays : (j : ℕ) → n ≤ j → j < 16 → counted_at p r q health k x y z j ≡ none
  unfolding counted_at accounted charged
  stays j l m =
      rw (nothing j l m, filled-above n k fk j l m, bit_high health n j h l, le-leb 0 p (omega arith))

  -- the array of one counter, after all are taken along
  counted-array : {l : List ℕ} (m : ℕ) (a : List ℕ) (of : Account → ℕ) → of none ≡ 0 → n ≤ m → m ≤ 16 → Filled n a
      → l ≡ replaced m (λ j. of (counted_at p r q health k x y z j)) a → l ≡ array n (λ j. of (counted_at p r q health k x y z j))
  counted-array m a of zero lo hi f e =
      replaced-array n m _ a lo hi f (λ i s t. ap of (stays i s (omega arith)) ∙ zero) e

  -- the view, without the bits of modules past n
  counted-view : {v w : ℕ} (m : ℕ) → n ≤ m → v ≡ pack m (λ j. (counted_at p r q health k x y z j).present) → w ≡ 2 ^ n
      → v % w ≡ pack n (λ j. (counted_at p r q health k x y z j).present)
  counted-view m lo e t =
      let s : n + (m - n) ≡ m = omega arith in
      rw (e, t) (ap (λ (i : ℕ). pack i (λ j. (counted_at p r q health k x y z j).present) % 2 ^ n) (sym s) ∙ pack-low n (m - n) _)

  -- all of them
  pub counted-all : {v w : ℕ} {l l' l'' : List ℕ} (m : ℕ) → n ≤ m → m ≤ 16 → w ≡ 2 ^ n → v ≡ pack m (λ j. (counted_at p r q health k x y z j).present)
      → l ≡ replaced m (λ j. (counted_at p r q health k x y z j).penalty) x → l' ≡ replaced m (λ j. (counted_at p r q health k x y z j).reward) y
      → l'' ≡ replaced m (λ j. (counted_at p r q health k x y z j).returns) z
      → (v % w ≡ pack n (λ j. (counted_at p r q health k x y z j).present)) × (l ≡ array n (λ j. (counted_at p r q health k x y z j).penalty))
      × (l' ≡ array n (λ j. (counted_at p r q health k x y z j).reward)) × (l'' ≡ array n (λ j. (counted_at p r q health k x y z j).returns))
  counted-all m lo hi ew ev ex ey ez = (
    counted-view m lo ev ew,
    counted-array m x (λ a. a.penalty) refl lo hi fx ex,
    counted-array m y (λ a. a.reward) refl lo hi fy ey,
    counted-array m z (λ a. a.returns) refl lo hi fz ez,
  )

-- counters are in range where those of the definition are
pub range-in : (p q k : ℕ) (c : Counters) (j : ℕ) → InRange p q k (account_at c j) → InRange p q k (account_in p c.penalty c.reward c.returns j)
unfolding account_at account_in
range-in p q k c j f = record { penalty = f.penalty; charge = f.charge; reward = f.reward; returns = f.returns; present = refl; below = f.below }

-- and those whose view goes by their penalties are counted as the definition counts them
module _ (s : Setup) (p r : ℕ) (e : s.limits ≡ Counts p r) (health : ℕ) (c : Counters) where
  abbrev after : ℕ → Account
  after j = counted_at p r s.q health s.criticality c.penalty c.reward c.returns j

  counted_is : (j : ℕ) → bit c.view j ≡ leb (get_or c.penalty j 0) p → after j ≡ accounted_at s health c j
  unfolding counted_at account_at account_in accounted charged rewarded
  counted_is j v = rw (counts-at s p r e health c j, v)

  pub counted-counters : s.n ≤ 16 → ((j : ℕ) → j < s.n → (account_at c j).present ≡ leb (account_at c j).penalty p)
      → record {
        view = pack s.n (λ j. (after j).present);
        penalty = array s.n (λ j. (after j).penalty);
        reward = array s.n (λ j. (after j).reward);
        score = zeros;
        returns = array s.n (λ j. (after j).returns);
      } ≡ counters_of s health c
  unfolding counters_of account_at
  counted-counters small v =
      let same : (j : ℕ) → j < s.n → after j ≡ accounted_at s health c j = λ j h. counted_is j (v j h) in
      λ i. record {
        view = pack-ext s.n _ _ (λ j h. ap (λ (a : Account). a.present) (same j h)) i;
        penalty = array-ext s.n _ _ (λ j h. ap (λ (a : Account). a.penalty) (same j h)) i;
        reward = array-ext s.n _ _ (λ j h. ap (λ (a : Account). a.reward) (same j h)) i;
        score = sym (scores-none s p r e health c small) i;
        returns = array-ext s.n _ _ (λ j h. ap (λ (a : Account). a.returns) (same j h)) i;
      }
