-- Rule 8 for all modules: the account of each after a round, and that it stays as rounds from opening on leave it.
use mathlib.Core.Path.{◌≡◌, sym, ap, ◌∙◌, subst}
use mathlib.Core.Bool.{Bool, true}
use mathlib.Core.List.{List}
use Prim.Native.Nat.{ℕ, ◌-◌, ◌<◌, ◌≤◌}
use native.Mathlib.Omega.{arith}
use lib.ListN.{get_or, replicate, length-replicate, get_or-replicate}
use lib.Ieee.{Float}
use Rattle.words.specs.Bits.{bit}
use Rattle.words.specs.Array.{array}
use Rattle.words.proofs.BitLaws.{bit-pack}
use Rattle.words.proofs.ArrayLaws.{array_at, array-ext, array-own, clear_of}
use Rattle.doubles.specs.Double.{double, is_double}
use Rattle.doubles.specs.Array.{zeros, clear_doubles}
use Rattle.doubles.proofs.DoubleLaws.{holds}
use Rattle.doubles.proofs.Whole.{double-fits}
use Rattle.doubles.proofs.DoubleArrayLaws.{doubles-at, doubles-zeros, clear-doubles}
use Rattle.setup.specs.Limits.{factor_fits, limit_fits, most_return_limit, most_criticality}
use Rattle.setup.specs.declared.Setup.{Setup}
use Rattle.setup.specs.declared.Limits.{Limits}
use Rattle.setup.specs.declared.Limits.TheVariants.{Counts, Fading}
use Rattle.accounts.specs.declared.Account.{Account}
use Rattle.accounts.specs.declared.Counters.{Counters}
use Rattle.accounts.specs.Account.{accounted}
use Rattle.accounts.specs.Fading.{faded}
use Rattle.accounts.specs.Round.{accounted_by, account_at, accounted_at, counters_of}
use Rattle.accounts.specs.Range.{AccountRange}
use Rattle.setup.proofs.BoundLaws.{LimitsFit}
use Rattle.accounts.proofs.AwaitedLaws.{CountFits}
use Rattle.accounts.proofs.AccountLaws.{AccountFits, accounted-fits, accounted-counts, accounted-score}
use Rattle.accounts.proofs.FadeLaws.{FadeFits, OwesNothing, faded-fits, faded-counts, faded-exact, faded-owes}

-- ---- one module, by the limits of the setup

-- an account as rounds from opening on leave it
abbrev pub Kept : Limits → ℕ → Account → Type 0
Kept (Counts p r) criticality a = AccountFits p r criticality a × (a.score ≡ double 0)
Kept (Fading factor limit) criticality a = FadeFits limit a

pub accounted-kept : (l : Limits) (q k : ℕ) (healthy : Bool) (a : Account) → LimitsFit l → Kept l k a → Kept l k (accounted_by l q k healthy a)
unfolding accounted_by
accounted-kept (Counts p r) q k healthy a fits f = (accounted-fits p r q k a f.0 healthy, accounted-score p r q k healthy a)
accounted-kept (Fading factor limit) q k healthy a fits f = faded-fits factor limit fits.factor fits.limit q healthy a f

-- by the limits of an accepted setup rule 8 can be counted
pub kept-countable : (l : Limits) (q k : ℕ) (a : Account) → LimitsFit l → q ≤ most_return_limit → k ≤ most_criticality → a.returns ≤ q - 1 → Kept l k a
    → AccountRange l q k a
kept-countable (Counts p r) q k a fits hq hk below f =
    let g = f.0 in
    record {
      penalty = omega (arith, g.penalty, fits.p-most);
      charge = hk;
      reward = omega (arith, g.reward, fits.r-most);
      returns = omega arith;
      present = g.view;
      below = below;
    }
kept-countable (Fading factor limit) q k a fits hq hk below f = record { returns = omega arith; below = below }

-- return counts, whatever the account was
by-counts : (l : Limits) (q k : ℕ) (healthy : Bool) (a : Account) → CountFits q (accounted_by l q k healthy a)
unfolding accounted_by
by-counts (Counts p r) q k healthy a = accounted-counts p r q k healthy a
by-counts (Fading factor limit) q k healthy a = faded-counts factor limit q healthy a

-- scores are doubles
by-exact : (l : Limits) (q k : ℕ) (healthy : Bool) (a : Account) → is_double a.score ≡ true → is_double (accounted_by l q k healthy a).score ≡ true
unfolding accounted_by
by-exact (Counts p r) q k healthy a e = ap is_double (accounted-score p r q k healthy a) ∙ holds _ (double-fits 0)
by-exact (Fading factor limit) q k healthy a e = faded-exact factor limit q healthy a e

-- ---- all modules

-- the account of one module after a round
pub accounted-at : (s : Setup) (health : ℕ) (c : Counters) → s.n ≤ 16 → (j : ℕ) → j < s.n
    → account_at (counters_of s health c) j ≡ accounted_at s health c j
unfolding account_at counters_of
accounted-at s health c small j h = λ i. record {
  present = bit-pack s.n (λ k. (accounted_at s health c k).present) j h i;
  penalty = array_at s.n (λ k. (accounted_at s health c k).penalty) j h small i;
  reward = array_at s.n (λ k. (accounted_at s health c k).reward) j h small i;
  score = doubles-at s.n (λ k. (accounted_at s health c k).score) j h small i;
  returns = array_at s.n (λ k. (accounted_at s health c k).returns) j h small i;
}

-- return counts fit, whatever the accounts were
pub counts-fit : (s : Setup) (health : ℕ) (c : Counters) → s.n ≤ 16 → (j : ℕ) → j < s.n → CountFits s.q (account_at (counters_of s health c) j)
unfolding accounted_at
counts-fit s health c small j h =
    subst (CountFits s.q) (sym (accounted-at s health c small j h))
    (by-counts s.limits s.q (get_or s.criticality j 0) (bit health j) (account_at c j))

-- scores are doubles, and 0.0 from n on
pub scores-clear : (s : Setup) (health : ℕ) (c : Counters) → s.n ≤ 16 → ((j : ℕ) → j < s.n → is_double (account_at c j).score ≡ true)
    → clear_doubles s.n (counters_of s health c).score ≡ true
unfolding counters_of accounted_at
scores-clear s health c small f =
    clear-doubles s.n _ small (λ j h. by-exact s.limits s.q (get_or s.criticality j 0) (bit health j) (account_at c j) (f j h))

-- ---- where the form of the limits is known

array-zeros : (n : ℕ) (f : ℕ → ℕ) → n ≤ 16 → ((i : ℕ) → i < n → f i ≡ 0) → array n f ≡ replicate 16 0
array-zeros n f small z =
    array-ext n f (λ j. get_or none j 0) (λ i h. z i h ∙ sym (get_or-replicate {A = ℕ} 16 i 0 0 (omega arith)))
    ∙ array-own n none small (length-replicate {A = ℕ} 16 0) (clear_of n none (λ i h l. get_or-replicate {A = ℕ} 16 i 0 0 l))
  where
    none : List ℕ
    none = replicate 16 0

-- by counts
module _ (s : Setup) (p r : ℕ) (e : s.limits ≡ Counts p r) (health : ℕ) (c : Counters) where
  pub counts-at : (j : ℕ) → accounted_at s health c j ≡ accounted p r s.q (get_or s.criticality j 0) (bit health j) (account_at c j)
  unfolding accounted_at accounted_by
  counts-at j = ap (λ (l : Limits). accounted_by l s.q (get_or s.criticality j 0) (bit health j) (account_at c j)) e

  pub counters-fit : s.n ≤ 16 → ((j : ℕ) → j < s.n → AccountFits p r (get_or s.criticality j 0) (account_at c j))
      → (j : ℕ) → j < s.n → AccountFits p r (get_or s.criticality j 0) (account_at (counters_of s health c) j)
  counters-fit small f j h =
      subst (AccountFits p r (get_or s.criticality j 0)) (sym (accounted-at s health c small j h ∙ counts-at j))
      (accounted-fits p r s.q (get_or s.criticality j 0) (account_at c j) (f j h) (bit health j))

  -- nobody has a score
  pub scores-none : s.n ≤ 16 → (counters_of s health c).score ≡ zeros
  unfolding counters_of
  scores-none small =
      doubles-zeros s.n _ small
      (λ j h. ap (λ (a : Account). a.score) (counts-at j) ∙ accounted-score p r s.q (get_or s.criticality j 0) (bit health j) (account_at c j))

-- by fading scores
module _ (s : Setup) (factor limit : Float) (e : s.limits ≡ Fading factor limit) (health : ℕ) (c : Counters) where
  pub fading-at : (j : ℕ) → accounted_at s health c j ≡ faded factor limit s.q (bit health j) (account_at c j)
  unfolding accounted_at accounted_by
  fading-at j = ap (λ (l : Limits). accounted_by l s.q (get_or s.criticality j 0) (bit health j) (account_at c j)) e

  owes : (j : ℕ) → OwesNothing (accounted_at s health c j)
  owes j = subst OwesNothing (sym (fading-at j)) (faded-owes factor limit s.q (bit health j) (account_at c j))

  pub scores-fit : factor_fits factor ≡ true → limit_fits limit ≡ true → s.n ≤ 16 → ((j : ℕ) → j < s.n → FadeFits limit (account_at c j))
      → (j : ℕ) → j < s.n → FadeFits limit (account_at (counters_of s health c) j)
  scores-fit ff lf small f j h =
      subst (FadeFits limit) (sym (accounted-at s health c small j h ∙ fading-at j))
      (faded-fits factor limit ff lf s.q (bit health j) (account_at c j) (f j h))

  -- nobody has a penalty or a reward
  pub penalties-none : s.n ≤ 16 → (counters_of s health c).penalty ≡ replicate 16 0
  unfolding counters_of
  penalties-none small = array-zeros s.n _ small (λ j h. (owes j).0)

  pub rewards-none : s.n ≤ 16 → (counters_of s health c).reward ≡ replicate 16 0
  unfolding counters_of
  rewards-none small = array-zeros s.n _ small (λ j h. (owes j).1)
