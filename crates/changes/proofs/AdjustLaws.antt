-- A change leaves every account within the new limits, whatever the old ones were.
use mathlib.Core.Path.{◌≡◌, refl, ◌∙◌, sym}
use mathlib.Core.Bool.{Bool, true, false, cond, ◌&&◌}
use Prim.Native.Nat.{ℕ, ◌+◌, ◌<◌, ◌≤◌}
use native.Mathlib.Omega.{arith}
use lib.ListN.{get_or}
use lib.Dec.{leb}
use lib.Ieee.{Float}
use borrow.Author.Tests.{leb-true, leb-false, lt-leb}
use Rattle.words.specs.Bits.{bit}
use Rattle.words.proofs.Truth.{clash, cond_both}
use Rattle.words.proofs.BitLaws.{bit-pack}
use Rattle.words.proofs.ArrayLaws.{array_at}
use Rattle.doubles.specs.Array.{entry}
use Rattle.accounts.specs.Round.{account_at}
use Rattle.accounts.specs.declared.Account.{Account}
use Rattle.accounts.specs.declared.Counters.{Counters}
use Rattle.accounts.proofs.AccountLaws.{AccountFits}
use Rattle.changes.specs.Adjust.{with_counters, forgiven, fitted, settled, adjusted, adjusted_at, adjusted_of}
use Rattle.changes.specs.declared.Pending.{Pending}

-- P + 1 to P + criticality
pub fitted-range : (p k pen : ℕ) → 1 ≤ k → (p < fitted p k pen) × (fitted p k pen ≤ p + k)
unfolding fitted
fitted-range p k pen h = go (leb (p + 1) pen) refl
  where
    cut : (raised : ℕ) → p < raised → (c : Bool) → leb raised (p + k) ≡ c
        → (p < cond c raised (p + k)) × (cond c raised (p + k) ≤ p + k)
    cut raised l true t = (l, leb-true raised (p + k) t)
    cut raised l false f = (omega arith, omega arith)

    go : (b : Bool) → leb (p + 1) pen ≡ b
        → (p < cond (leb (cond b pen (p + 1)) (p + k)) (cond b pen (p + 1)) (p + k))
        × (cond (leb (cond b pen (p + 1)) (p + k)) (cond b pen (p + 1)) (p + k) ≤ p + k)
    go true t = cut pen (omega (arith, leb-true (p + 1) pen t)) _ refl
    go false f = cut (p + 1) (omega arith) _ refl

-- an account that only needs its place in or out of the view
record Ready (r : ℕ) (a : Account) : Type 0 where
  below : a.present ≡ true → a.reward < r
  unowed : a.penalty ≡ 0 → a.reward ≡ 0

forgiven-ready : (r : ℕ) (a : Account) → 1 ≤ r → (a.penalty ≡ 0 → a.reward ≡ 0) → Ready r (forgiven r a)
unfolding forgiven
forgiven-ready r a h unowed = go a.present (leb r a.reward) refl refl
  where
    go : (b c : Bool) → a.present ≡ b → leb r a.reward ≡ c → Ready r (cond (b && c) (with_counters a true 0 0) a)
    go true true x y = record { below = λ t. omega arith; unowed = λ z. refl }
    go true false x y = record { below = λ t. omega (arith, leb-false r a.reward y); unowed = unowed }
    go false c x y = record { below = λ t. clash a.present t x; unowed = unowed }

settled-fits : (p r k : ℕ) (a : Account) → 1 ≤ r → 1 ≤ k → Ready r a → AccountFits p r k (settled p k a)
unfolding settled
settled-fits p r k a h l f = go a.present (leb a.penalty p) refl refl
  where
    out : AccountFits p r k (with_counters a false (fitted p k a.penalty) 0)
    out =
        let (more, most) = fitted-range p k a.penalty l in
        record { penalty = most; view = sym (lt-leb (fitted p k a.penalty) p more); reward = omega arith; unowed = λ z. refl }

    go : (b c : Bool) → a.present ≡ b → leb a.penalty p ≡ c
        → AccountFits p r k (cond (b && c) a (with_counters a false (fitted p k a.penalty) 0))
    go true true x y =
        record { penalty = omega (arith, leb-true a.penalty p y); view = x ∙ sym y; reward = f.below x; unowed = f.unowed }
    go true false x y = out
    go false c x y = out

-- of the old limits nothing is used but that no reward stands without a penalty
pub adjusted-fits : (p r k : ℕ) (a : Account) → 1 ≤ r → 1 ≤ k → (a.penalty ≡ 0 → a.reward ≡ 0) → AccountFits p r k (adjusted p r k a)
unfolding adjusted
adjusted-fits p r k a h l unowed = settled-fits p r k (forgiven r a) h l (forgiven-ready r a h unowed)

-- ---- what a change leaves alone

module _ (p r k : ℕ) (a : Account) where
  -- what holds of the account before and whatever its counters are
  kept : (P : Account → Type 0) → P a → ((b : Bool) (x y : ℕ) → P (with_counters a b x y)) → P (adjusted p r k a)
  unfolding adjusted settled forgiven
  kept P h w = go (a.present && leb r a.reward)
    where
      go : (b : Bool) → (let f = cond b (with_counters a true 0 0) a in P (cond (f.present && leb f.penalty p) f (with_counters f false (fitted p k f.penalty) 0)))
      go true = cond_both P (leb 0 p) _ _ (w true 0 0) (w false (fitted p k 0) 0)
      go false = cond_both P (a.present && leb a.penalty p) _ _ h (w false (fitted p k a.penalty) 0)

  pub adjusted-score : (adjusted p r k a).score ≡ a.score
  adjusted-score = kept (λ (x : Account). x.score ≡ a.score) refl (λ b x y. refl)

  pub adjusted-returns : (adjusted p r k a).returns ≡ a.returns
  adjusted-returns = kept (λ (x : Account). x.returns ≡ a.returns) refl (λ b x y. refl)

  -- nobody comes back by a change
  pub adjusted-out : a.present ≡ false → (adjusted p r k a).present ≡ false
  unfolding adjusted settled forgiven
  adjusted-out e = go a.present e
    where
      go : (b : Bool) → b ≡ false
          → (let f = cond (b && leb r a.reward) (with_counters a true 0 0) (with_counters a b a.penalty a.reward) in
          cond (f.present && leb f.penalty p) f (with_counters f false (fitted p k f.penalty) 0)).present ≡ false
      go true z = clash true refl z
      go false z = refl

  pub adjusted-in : (adjusted p r k a).present ≡ true → a.present ≡ true
  adjusted-in t = go a.present refl
    where
      go : (b : Bool) → a.present ≡ b → b ≡ true
      go true e = refl
      go false e = clash (adjusted p r k a).present t (adjusted-out e)

-- ---- all modules

module _ (c : Pending) (k : Counters) (j : ℕ) where
  score-at : entry k.score j ≡ (adjusted_at c k j).score
  unfolding adjusted_at account_at
  score-at = sym (adjusted-score c.p c.r (get_or c.criticality j 0) (account_at k j))

  returns-at : get_or k.returns j 0 ≡ (adjusted_at c k j).returns
  unfolding adjusted_at account_at
  returns-at = sym (adjusted-returns c.p c.r (get_or c.criticality j 0) (account_at k j))

-- the account of one module after the change
pub adjusted-at : (n : ℕ) (c : Pending) (k : Counters) → n ≤ 16 → (j : ℕ) → j < n → account_at (adjusted_of n c k) j ≡ adjusted_at c k j
unfolding account_at adjusted_of
adjusted-at n c k small j h = λ i. record {
  present = bit-pack n (λ m. (adjusted_at c k m).present) j h i;
  penalty = array_at n (λ m. (adjusted_at c k m).penalty) j h small i;
  reward = array_at n (λ m. (adjusted_at c k m).reward) j h small i;
  score = score-at c k j i;
  returns = returns-at c k j i;
}

-- ---- a change by picks, without a branch

module _ (s : Float) (t : ℕ) where
  abbrev made : Bool → ℕ → ℕ → Account
  made b x y = record { present = b; penalty = x; reward = y; score = s; returns = t }

  split : (d : Bool) (x y z : ℕ) → made d (cond d x y) (cond d z 0) ≡ cond d (made true x z) (made false y 0)
  split true x y z = refl
  split false x y z = refl

  picked : (p k pen rew : ℕ) (b c : Bool)
      → made (b && leb (cond (b && c) 0 pen) p)
      (cond (b && leb (cond (b && c) 0 pen) p) (cond (b && c) 0 pen) (fitted p k (cond (b && c) 0 pen)))
      (cond (b && leb (cond (b && c) 0 pen) p) (cond (b && c) 0 rew) 0)
      ≡ settled p k (cond (b && c) (made true 0 0) (made b pen rew))
  unfolding settled
  picked p k pen rew true true = split (leb 0 p) 0 (fitted p k 0) 0
  picked p k pen rew true false = split (leb pen p) pen (fitted p k pen) rew
  picked p k pen rew false c = refl

pub adjusted-by : (p r k : ℕ) (a : Account) {pen rew out x y : ℕ} → pen ≡ cond (a.present && leb r a.reward) 0 a.penalty
    → rew ≡ cond (a.present && leb r a.reward) 0 a.reward → out ≡ fitted p k pen
    → x ≡ cond (a.present && leb pen p) pen out → y ≡ cond (a.present && leb pen p) rew 0
    → record { present = a.present && leb pen p; penalty = x; reward = y; score = a.score; returns = a.returns } ≡ adjusted p r k a
unfolding adjusted forgiven
adjusted-by p r k a ep er eo ex ey =
    rw (ey, ex, eo, er, ep) (picked a.score a.returns p k a.penalty a.reward a.present (leb r a.reward))

-- the account of module j, with a bit of the view that is already read
pub adjusted-read : (c : Pending) (k : Counters) (j : ℕ) (b : Bool) {x : Account} → b ≡ bit k.view j
    → x ≡ adjusted c.p c.r (get_or c.criticality j 0)
    (record { present = b; penalty = get_or k.penalty j 0; reward = get_or k.reward j 0; score = entry k.score j; returns = get_or k.returns j 0 })
    → x ≡ adjusted_at c k j
unfolding adjusted_at account_at
adjusted-read c k j b e r = rw e at r
