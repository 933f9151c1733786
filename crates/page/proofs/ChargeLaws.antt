-- Somebody is charged exactly if rule 8 makes a penalty grow.
use mathlib.Core.Path.{◌≡◌, refl, ap, ◌∙◌, sym}
use mathlib.Core.Bool.{Bool, true, false, cond, not, ◌&&◌}
use Prim.Native.Nat.{ℕ, ◌+◌, ◌≤◌, ◌<◌}
use native.Mathlib.Omega.{arith}
use native.Mathlib.Nat.{le_refl}
use lib.ListN.{get_or}
use lib.Dec.{eqb, leb, ltb}
use borrow.Author.Tests.{leb-false, lt-ltb, le-ltb}
use Rattle.words.specs.Bits.{bit}
use Rattle.words.proofs.Truth.{cond_both}
use Rattle.words.specs.Count.{any}
use Rattle.words.proofs.CountLaws.{any-ext}
use Rattle.setup.specs.declared.Setup.{Setup}
use Rattle.setup.specs.declared.Limits.TheVariants.{Counts}
use Rattle.setup.proofs.SetupLaws.{SetupFits}
use Rattle.accounts.specs.declared.Account.{Account}
use Rattle.accounts.specs.declared.Counters.{Counters}
use Rattle.accounts.specs.Account.{counts, uncounted, charged, rewarded, awaited, accounted}
use Rattle.accounts.specs.Round.{account_at, counters_of}
use Rattle.accounts.proofs.AccountLaws.{AccountFits}
use Rattle.accounts.proofs.RoundLaws.{accounted-at, counts-at}
use Rattle.page.specs.Page.{somebody_charged}

rewarded-most : (r : ℕ) (a : Account) → (rewarded r a).penalty ≤ a.penalty
unfolding rewarded
rewarded-most r a =
    cond_both (λ (x : Account). x.penalty ≤ a.penalty) (eqb a.penalty 0) _ _ (le_refl a.penalty)
    (cond_both (λ (x : Account). x.penalty ≤ a.penalty) (leb r (a.reward + 1)) _ _ (omega arith) (le_refl a.penalty))

-- one out of the view returns with penalty P, if it does, which its penalty is above
awaited-most : (p q : ℕ) (healthy : Bool) (a : Account) → p ≤ a.penalty
    → (awaited (uncounted true p 0) (counts false a.penalty a.reward) q healthy a.returns).penalty ≤ a.penalty
unfolding awaited
awaited-most p q healthy a h =
    cond_both (λ (x : Account). x.penalty ≤ a.penalty) (healthy && ltb 0 q) _ _
    (cond_both (λ (x : Account). x.penalty ≤ a.penalty) (leb q (a.returns + 1)) _ _ h (le_refl a.penalty)) (le_refl a.penalty)

-- one module, present or not, healthy or not
grows : (p r q k : ℕ) (healthy : Bool) (a : Account) → 1 ≤ k → AccountFits p r k a
    → a.present && not healthy ≡ ltb a.penalty (accounted p r q k healthy a).penalty
unfolding accounted charged
grows p r q k healthy a h f = go a.present healthy refl
  where
    go : (b g : Bool) → a.present ≡ b
        → b && not g ≡ ltb a.penalty (cond b (cond g (rewarded r a) (charged p k a)) (awaited (uncounted true p 0) (counts false a.penalty a.reward) q healthy a.returns)).penalty
    go true true e = sym (le-ltb a.penalty _ (rewarded-most r a))
    go true false e = sym (lt-ltb a.penalty (a.penalty + k) (omega arith))
    go false g e =
        let above : p < a.penalty = leb-false a.penalty p (sym f.view ∙ e) in
        sym (le-ltb a.penalty _ (awaited-most p q healthy a (omega arith)))

pub charged-grows : (s : Setup) (p r : ℕ) → s.limits ≡ Counts p r → (c : Counters) (health : ℕ) → SetupFits s
    → ((j : ℕ) → j < s.n → AccountFits p r (get_or s.criticality j 0) (account_at c j))
    → somebody_charged s.n c.view health ≡ any s.n (λ j. ltb (get_or c.penalty j 0) (get_or (counters_of s health c).penalty j 0))
unfolding somebody_charged account_at
charged-grows s p r e c health f fits =
    any-ext s.n _ _
    (λ j h. grows p r s.q (get_or s.criticality j 0) (bit health j) (account_at c j) (f.each j h).least (fits j h)
    ∙ ap (ltb (get_or c.penalty j 0)) (sym (ap (λ (a : Account). a.penalty) (accounted-at s health c f.most j h ∙ counts-at s p r e health c j))))
