-- A module out of the view, whose account is kept by counts or by scores: `back` is its account where it returns, `away` the one with a return count
-- where it does not.
use mathlib.Core.Path.{◌≡◌, refl, ap, ◌∙◌}
use mathlib.Core.Bool.{Bool, true, false, cond, ◌&&◌}
use Prim.Native.Nat.{ℕ, ◌+◌, ◌-◌, ◌≤◌}
use native.Mathlib.Omega.{arith}
use lib.Dec.{eqb, leb, ltb}
use borrow.Author.Tests.{eqb-true, eqb-false, ltb-true, ltb-false, leb-true, leb-false, lt-ltb, le-ltb, le-leb, lt-leb}
use Rattle.words.proofs.Truth.{clash, and_l, and_r, and-true, cond-true, cond-false, cond_both}
use Rattle.accounts.specs.declared.Account.{Account}
use Rattle.accounts.specs.Account.{awaited}

-- a return count below Q, and 0 in the view or where Q is 0
pub record CountFits (q : ℕ) (a : Account) : Type 0 where
  pub below : a.returns ≤ q - 1
  pub present : a.present ≡ true → a.returns ≡ 0

pub none-counted : (q : ℕ) (a : Account) → a.returns ≡ 0 → CountFits q a
none-counted q a e = record { below = omega arith; present = λ z. e }

module _ (back : Account) (away : ℕ → Account) (q : ℕ) (healthy : Bool) (returns : ℕ) where
  -- what holds of both accounts
  pub awaited-both : (P : Account → Type 0) → P back → ((k : ℕ) → P (away k)) → P (awaited back away q healthy returns)
  unfolding awaited
  awaited-both P b a =
      cond_both P (healthy && ltb 0 q) _ _ (cond_both P (leb q (returns + 1)) back (away (returns + 1)) b (a (returns + 1))) (a 0)

  -- by picks: the first test is whether the module returns, the second whether one round more is counted
  pub awaited-by : (P : Bool → Bool → Account → Type 0) → returns ≤ q - 1 → P true false back → P false true (away (returns + 1)) → P false false (away 0)
      → P (healthy && eqb (returns + 1) q) (healthy && ltb (returns + 1) q) (awaited back away q healthy returns)
  unfolding awaited
  awaited-by P l x y z = go healthy (eqb (returns + 1) q) (ltb (returns + 1) q) refl refl
    where
      go : (h t s : Bool) → eqb (returns + 1) q ≡ t → ltb (returns + 1) q ≡ s
          → P (h && t) (h && s) (cond (h && ltb 0 q) (cond (leb q (returns + 1)) back (away (returns + 1))) (away 0))
      go true true true e f = absurd (omega (arith, eqb-true (returns + 1) q e, ltb-true (returns + 1) q f))
      go true true false e f =
          let d = eqb-true (returns + 1) q e in
          rw (lt-ltb 0 q (omega arith), le-leb q (returns + 1) (omega arith)) x
      go true false true e f =
          let d = ltb-true (returns + 1) q f in
          rw (lt-ltb 0 q (omega arith), lt-leb q (returns + 1) (omega arith)) y
      go true false false e f = rw (le-ltb 0 q (omega (arith, eqb-false (returns + 1) q e, ltb-false (returns + 1) q f))) z
      go false t s e f = z

  -- whatever the return count was
  pub awaited-counts : back.returns ≡ 0 → ((k : ℕ) → (away k).returns ≡ k) → ((k : ℕ) → (away k).present ≡ false)
      → CountFits q (awaited back away q healthy returns)
  unfolding awaited
  awaited-counts b a v =
      cond_both (CountFits q) (healthy && ltb 0 q) _ _ (go (leb q (returns + 1)) refl) (none-counted q (away 0) (a 0))
    where
      go : (c : Bool) → leb q (returns + 1) ≡ c → CountFits q (cond c back (away (returns + 1)))
      go true e = none-counted q back b
      go false e =
          record {
            below = omega (arith, leb-false q (returns + 1) e, a (returns + 1));
            present = λ z. clash (away (returns + 1)).present z (v (returns + 1));
          }

-- how it returns
module _ (back : Account) (away : ℕ → Account) (q : ℕ) (h : Bool) (returns : ℕ) (on : back.present ≡ true) (none : back.returns ≡ 0)
    (off : (k : ℕ) → (away k).present ≡ false) (some : (k : ℕ) → (away k).returns ≡ k) where
  abbrev next : Account
  next = awaited back away q h returns

  -- a count is one more than before, where the health was 1
  pub awaited-grown : 1 ≤ next.returns → (h ≡ true) × (next.returns ≡ returns + 1)
  unfolding awaited
  awaited-grown l = go h (ltb 0 q) (leb q (returns + 1)) l
    where
      go : (g w t : Bool) → (let x = (cond (g && w) (cond t back (away (returns + 1))) (away 0)).returns in 1 ≤ x → (g ≡ true) × (x ≡ returns + 1))
      go true true true l = absurd (omega (arith, none))
      go true true false l = (refl, some (returns + 1))
      go true false t l = absurd (omega (arith, some 0))
      go false w t l = absurd (omega (arith, some 0))

  -- health 1 where Q is not 0: it is back at Q, and else the count grows
  pub awaited-back : h ≡ true → 1 ≤ q → q ≤ returns + 1 → next ≡ back
  unfolding awaited
  awaited-back e w l = cond-true _ _ (and-true h (ltb 0 q) e (lt-ltb 0 q w)) ∙ cond-true _ _ (le-leb q (returns + 1) l)

  pub awaited-longer : h ≡ true → 1 ≤ q → next.present ≡ false → next.returns ≡ returns + 1
  unfolding awaited
  awaited-longer e w f = go (leb q (returns + 1)) refl
    where
      go : (t : Bool) → leb q (returns + 1) ≡ t → next.returns ≡ returns + 1
      go true y = clash next.present (ap (λ (x : Account). x.present) (awaited-back e w (leb-true q (returns + 1) y)) ∙ on) f
      go false y =
          ap (λ (x : Account). x.returns) (cond-true _ _ (and-true h (ltb 0 q) e (lt-ltb 0 q w)) ∙ cond-false _ _ y) ∙ some (returns + 1)

  -- it is back only so
  pub awaited-back-by : next.present ≡ true → (h ≡ true) × (1 ≤ q) × (q ≤ returns + 1)
  unfolding awaited
  awaited-back-by e = go (h && ltb 0 q) (leb q (returns + 1)) refl refl e
    where
      go : (w t : Bool) → h && ltb 0 q ≡ w → leb q (returns + 1) ≡ t → (cond w (cond t back (away (returns + 1))) (away 0)).present ≡ true
          → (h ≡ true) × (1 ≤ q) × (q ≤ returns + 1)
      go true true x y z = (and_l h (ltb 0 q) x, ltb-true 0 q (and_r h (ltb 0 q) x), leb-true q (returns + 1) y)
      go true false x y z = clash (away (returns + 1)).present z (off (returns + 1))
      go false t x y z = clash (away 0).present z (off 0)
