-- Rule 8 by counts keeps the account of a module within the limits of the setup, and the code picks what the definition has.
use mathlib.Core.Path.{◌≡◌, refl, ap, ◌∙◌, sym}
use mathlib.Core.Bool.{Bool, true, false, cond, not, ◌&&◌, ◌||◌}
use Prim.Native.Nat.{ℕ, ◌+◌, ◌-◌, ◌<◌, ◌≤◌}
use native.Mathlib.Omega.{arith}
use lib.Dec.{eqb, leb, ltb}
use lib.Ieee.{binary64, of_bits}
use borrow.Author.Tests.{leb-true, leb-false, eqb-false, le-leb}
use Rattle.words.specs.Bits.{b2n}
use Rattle.words.proofs.Truth.{cond_both}
use Rattle.doubles.specs.Double.{double}
use Rattle.doubles.proofs.Rounding.{zero_bits}
use Rattle.accounts.specs.declared.Account.{Account}
use Rattle.accounts.specs.Account.{counts, uncounted, charged, rewarded, awaited, accounted}
use Rattle.accounts.proofs.AwaitedLaws.{CountFits, none-counted, awaited-both, awaited-by, awaited-counts}

-- what `awaited` chooses from: the account where the module returns, the one with a return count where it does not
abbrev back : ℕ → Account
back p = uncounted true p 0

abbrev away : Account → ℕ → Account
away a = counts false a.penalty a.reward

-- an account as rounds from opening on leave it; of its return count see below
pub record AccountFits (p r criticality : ℕ) (a : Account) : Type 0 where
  pub penalty : a.penalty ≤ p + criticality
  pub view : a.present ≡ leb a.penalty p
  pub reward : a.reward < r
  pub unowed : a.penalty ≡ 0 → a.reward ≡ 0

module _ (p r q k : ℕ) (a : Account) (f : AccountFits p r k a) where
  charged-fits : a.present ≡ true → AccountFits p r k (charged p k a)
  unfolding charged
  charged-fits e =
      let l : a.penalty ≤ p = leb-true _ _ (sym f.view ∙ e) in
      record { penalty = omega arith; view = refl; reward = omega (arith, f.reward); unowed = λ z. refl }

  rewarded-fits : a.present ≡ true → AccountFits p r k (rewarded r a)
  unfolding rewarded
  rewarded-fits e = go (eqb a.penalty 0) (leb r (a.reward + 1)) refl refl
    where
      go : (b c : Bool) → eqb a.penalty 0 ≡ b → leb r (a.reward + 1) ≡ c
          → AccountFits p r k (cond b (uncounted a.present a.penalty a.reward)
          (cond c (uncounted a.present 0 0) (uncounted a.present a.penalty (a.reward + 1))))
      go true c x y = record { penalty = f.penalty; view = f.view; reward = f.reward; unowed = f.unowed }
      go false true x y =
          record { penalty = omega arith; view = e ∙ sym (le-leb 0 p (omega arith)); reward = omega (arith, f.reward); unowed = λ z. refl }
      go false false x y =
          record {
            penalty = f.penalty;
            view = f.view;
            reward = omega (arith, leb-false r (a.reward + 1) y);
            unowed = λ z. absurd (eqb-false a.penalty 0 x z);
          }

  awaited-fits : (healthy : Bool) → a.present ≡ false → AccountFits p r k (awaited (back p) (away a) q healthy a.returns)
  awaited-fits healthy e =
      awaited-both (back p) (away a) q healthy a.returns (AccountFits p r k)
      (record { penalty = omega arith; view = sym (le-leb p p (omega arith)); reward = omega (arith, f.reward); unowed = λ z. refl })
      (λ i. record { penalty = f.penalty; view = sym e ∙ f.view; reward = f.reward; unowed = f.unowed })

  pub accounted-fits : (healthy : Bool) → AccountFits p r k (accounted p r q k healthy a)
  unfolding accounted
  accounted-fits healthy = go a.present healthy refl
    where
      go : (b h : Bool) → a.present ≡ b → AccountFits p r k (cond b (cond h (rewarded r a) (charged p k a)) (awaited (back p) (away a) q healthy a.returns))
      go false h e = awaited-fits healthy e
      go true true e = rewarded-fits e
      go true false e = charged-fits e

-- ---- whatever the account was

module _ (p r q k : ℕ) (healthy : Bool) (a : Account) where
  -- what holds of every account by counts that rule 8 gives to a module in the view
  pub inside_both : (P : Account → Type 0) → ((present : Bool) (penalty reward : ℕ) → P (uncounted present penalty reward)) → P (cond healthy (rewarded r a) (charged p k a))
  unfolding rewarded charged
  inside_both P u =
      cond_both P healthy _ _
      (cond_both P (eqb a.penalty 0) _ _ (u _ _ _) (cond_both P (leb r (a.reward + 1)) _ _ (u _ _ _) (u _ _ _)))
      (u _ _ _)

  -- its return count fits
  pub accounted-counts : CountFits q (accounted p r q k healthy a)
  unfolding accounted
  accounted-counts =
      cond_both (CountFits q) a.present _ _ (inside_both (CountFits q) (λ b x y. none-counted q (uncounted b x y) refl))
      (awaited-counts (back p) (away a) q healthy a.returns refl (λ i. refl) (λ i. refl))

  -- it has no score
  pub accounted-score : (accounted p r q k healthy a).score ≡ double 0
  unfolding accounted
  accounted-score =
      cond_both (λ (x : Account). x.score ≡ double 0) a.present _ _ (inside_both (λ (x : Account). x.score ≡ double 0) (λ b x y. refl))
      (awaited-both (back p) (away a) q healthy a.returns (λ (x : Account). x.score ≡ double 0) refl (λ i. refl))

-- ---- rule 8 by picks, without a branch

-- what the picks choose by, for a module that is in the view or not (b), with this health (h), that owes nothing or something (o)
abbrev rewards : Bool → Bool → Bool → Bool
rewards b h o = (b && h) && not o

abbrev clears : Bool → Bool → Bool → ℕ → ℕ → Bool
clears b h o r more = rewards b h o && leb r more

-- e is what the reward grows by, k what the penalty grows by, w, x, y and z what the picks give
pub account-by : {e k w x y z : ℕ} (p r q criticality : ℕ) (h : Bool) (a : Account) → a.present ≡ leb a.penalty p → a.returns ≤ q - 1
    → e ≡ b2n (rewards a.present h (eqb a.penalty 0)) → k ≡ cond (a.present && not h) criticality 0
    → w ≡ cond (clears a.present h (eqb a.penalty 0) r (a.reward + e)) 0 (a.penalty + k)
    → x ≡ cond ((not a.present && h) && eqb (a.returns + 1) q) p w
    → y ≡ cond ((clears a.present h (eqb a.penalty 0) r (a.reward + e) || (a.present && not h)) || ((not a.present && h) && eqb (a.returns + 1) q)) 0 (a.reward + e)
    → z ≡ cond ((not a.present && h) && ltb (a.returns + 1) q) (a.returns + 1) 0
    → record { present = leb x p; penalty = x; reward = y; score = of_bits binary64 0; returns = z } ≡ accounted p r q criticality h a
unfolding accounted charged rewarded
account-by p r q criticality h a view below ee ek ew ex ey ez = rw (ez, ey, ex, ew, ek, ee, zero_bits) (go a.present h (eqb a.penalty 0) refl)
  where
    no_more : (v : ℕ) → v + 0 ≡ v
    no_more v = omega arith

    kept : leb (a.penalty + 0) p ≡ a.present
    kept = ap (λ v. leb v p) (no_more a.penalty) ∙ sym view

    -- l: at the limit
    cleared : (l : Bool) → a.present ≡ true
        → counts (leb (cond l 0 (a.penalty + 0)) p) (cond l 0 (a.penalty + 0)) (cond ((l || false) || false) 0 (a.reward + 1)) 0
        ≡ cond l (uncounted a.present 0 0) (uncounted a.present a.penalty (a.reward + 1))
    cleared true e = λ i. counts ((le-leb 0 p (omega arith) ∙ sym e) i) 0 0 0
    cleared false e = λ i. counts (kept i) (no_more a.penalty i) (a.reward + 1) 0

    -- t: the module returns; s: one round more is counted
    waited : (h : Bool) → a.present ≡ false → (let t = h && eqb (a.returns + 1) q in
        counts (leb (cond t p (a.penalty + 0)) p) (cond t p (a.penalty + 0)) (cond t 0 (a.reward + 0)) (cond (h && ltb (a.returns + 1) q) (a.returns + 1) 0))
        ≡ awaited (back p) (away a) q h a.returns
    waited h e =
        awaited-by (back p) (away a) q h a.returns
        (λ t s x. counts (leb (cond t p (a.penalty + 0)) p) (cond t p (a.penalty + 0)) (cond t 0 (a.reward + 0)) (cond s (a.returns + 1) 0) ≡ x) below
        (λ i. counts (le-leb p p (omega arith) i) p 0 0)
        (λ i. counts ((kept ∙ e) i) (no_more a.penalty i) (no_more a.reward i) (a.returns + 1))
        (λ i. counts ((kept ∙ e) i) (no_more a.penalty i) (no_more a.reward i) 0)

    go : (b h o : Bool) → a.present ≡ b → (let e = b2n (rewards b h o) in let l = clears b h o r (a.reward + e) in
        let t = (not b && h) && eqb (a.returns + 1) q in let x = cond t p (cond l 0 (a.penalty + cond (b && not h) criticality 0)) in
        counts (leb x p) x (cond ((l || (b && not h)) || t) 0 (a.reward + e)) (cond ((not b && h) && ltb (a.returns + 1) q) (a.returns + 1) 0))
        ≡ cond b (cond h (cond o (uncounted a.present a.penalty a.reward)
        (cond (leb r (a.reward + 1)) (uncounted a.present 0 0) (uncounted a.present a.penalty (a.reward + 1))))
        (uncounted (leb (a.penalty + criticality) p) (a.penalty + criticality) 0))
        (awaited (back p) (away a) q h a.returns)
    go true false o e = refl
    go true true true e = λ i. counts (kept i) (no_more a.penalty i) (no_more a.reward i) 0
    go true true false e = cleared (leb r (a.reward + 1)) e
    go false h o e = waited h e
