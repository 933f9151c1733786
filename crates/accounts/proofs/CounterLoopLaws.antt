-- The loop over all modules: an account that is read field by field is that of the definition, and so is what rule 8 gives.
use mathlib.Core.Path.{◌≡◌, subst}
use mathlib.Core.Bool.{Bool}
use mathlib.Core.List.{List}
use Prim.Native.Nat.{ℕ}
use lib.ListN.{get_or}
use lib.Ieee.{Float}
use Rattle.words.specs.Bits.{bit, pack}
use Rattle.words.specs.Array.{array}
use Rattle.doubles.specs.Array.{doubles}
use Rattle.setup.specs.declared.Setup.{Setup}
use Rattle.setup.specs.declared.Limits.{Limits}
use Rattle.accounts.specs.declared.Account.{Account}
use Rattle.accounts.specs.declared.Counters.{Counters}
use Rattle.accounts.specs.Round.{accounted_by, account_at, accounted_at, counters_of}
use Rattle.accounts.specs.Range.{AccountRange}

-- limits whose form is known
module _ {l m : Limits} (q k : ℕ) (a : Account) (e : l ≡ m) where
  pub form-countable : AccountRange l q k a → AccountRange m q k a
  form-countable f = subst (λ (x : Limits). AccountRange x q k a) e f

  pub form-accounted : {t : Account} (h : Bool) → t ≡ accounted_by m q k h a → t ≡ accounted_by l q k h a
  form-accounted h f = rw e f

-- a round of one module, whose account has been read
pub accounted-by : {h : Bool} {a x : Account} (s : Setup) (health : ℕ) (c : Counters) (j : ℕ) → h ≡ bit health j → a ≡ account_at c j
    → x ≡ accounted_by s.limits s.q (get_or s.criticality j 0) h a → x ≡ accounted_at s health c j
unfolding accounted_at
accounted-by s health c j t e f = rw (t, e) at f

-- the counters whose accounts are all taken
pub counters-by : {view : ℕ} {penalty reward returns : List ℕ} {score : List Float} (j : ℕ) (s : Setup) (health : ℕ) (c : Counters) → j ≡ s.n
    → view ≡ pack j (λ k. (accounted_at s health c k).present) → penalty ≡ array j (λ k. (accounted_at s health c k).penalty)
    → reward ≡ array j (λ k. (accounted_at s health c k).reward) → score ≡ doubles j (λ k. (accounted_at s health c k).score)
    → returns ≡ array j (λ k. (accounted_at s health c k).returns)
    → record { view = view; penalty = penalty; reward = reward; score = score; returns = returns } ≡ counters_of s health c
unfolding counters_of
counters-by j s health c e v p r x t = rw (v, p, r, x, t, e)
