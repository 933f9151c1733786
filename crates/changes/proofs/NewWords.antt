-- The words of a change, as the code writes and reads them one after the other.
use mathlib.Core.Path.{_≡_, refl, ap₂, _∙_, sym}
use mathlib.Core.Bool.{Bool, true}
use mathlib.Core.List.{List}
use Prim.Native.Nat.{ℕ, zero, suc, _+_, _-_, _^_, _<_, _≤_}
use native.Mathlib.Omega.{arith}
use lib.ListN.{getD}
use lib.Dec.{eqb}
use borrow.Author.Tests.{eq-eqb, ne-eqb}
use Rattle·words.specs.Word.{wordAt, putWord}
use Rattle·words.specs.Bits.{bit}
use Rattle·words.specs.Array.{array}
use Rattle·words.specs.Runs.{putRun, putRuns}
use Rattle·words.proofs.Truth.{cond-true, cond-false, cond-both}
use Rattle·words.proofs.RunLaws.{put-one}
use Rattle·setup.specs.Setup.{limitWord, limitIn, moduleWord, criticalityIn}
use Rattle·setup.specs.declared.Setup.{Setup}
use Rattle·changes·specs.specs.Pending.{nothing, pendingRoomy}
use Rattle·changes·specs.specs.Words.{newCount, pendingIn, newWord, changeRuns}
use Rattle·changes·specs.specs.declared.Pending.{Pending}
use Rattle·changes·proofs.proofs.PendingLaws.{roomy-pending}

pub count-most : {m : ℕ} (n left : ℕ) → m ≡ newCount n left → m ≤ n + 2
count-most n left e = rw e (cond-both (λ (x : ℕ). x ≤ n + 2) (eqb left 0) 0 (n + 2) (omega arith) (omega arith))

-- ---- written

-- what a new word is made of is in range
pub new-range : {many : ℕ} (s : Setup) (c : Pending) (i : ℕ) → s .n ≤ 16 → pendingRoomy (s .n) c ≡ true → ((j : ℕ) → j < s .n → getD (s .places) j 0 < 2 ^ 5)
    → many ≡ newCount (s .n) (c .left) → i < many
    → ((s .n ≤ 16) × (i < s .n + 2) × (c .p < 2 ^ 28) × (c .r < 2 ^ 28))
    × ((j : ℕ) → j < s .n → (getD (s .places) j 0 < 2 ^ 5) × (getD (c .criticality) j 0 < 2 ^ 17))
new-range s c i small roomy places e h =
    let f = roomy-pending (s .n) c small roomy in
    ((small, omega (arith, count-most (s .n) (c .left) e), f .p, f .r), λ j l. (places j l, f .criticality j l))

module _ (s : Setup) (c : Pending) where
  pub first-word : (i : ℕ) → i ≡ 0 → limitWord 2 (c .p) ≡ newWord s c i
  unfolding newWord
  first-word zero e = refl
  first-word (suc i) e = absurd (omega arith)

  pub second-word : (i : ℕ) → i ≡ 1 → limitWord 3 (c .r) ≡ newWord s c i
  unfolding newWord
  second-word zero e = absurd (omega arith)
  second-word (suc zero) e = refl
  second-word (suc (suc i)) e = absurd (omega arith)

  pub later-word : {w : ℕ} {b : Bool} (i : ℕ) → (i ≡ 0 → ⊥) → (i ≡ 1 → ⊥) → b ≡ bit (s .marks) (i - 2)
      → w ≡ moduleWord (i - 2) b (getD (s .places) (i - 2) 0) (getD (c .criticality) (i - 2) 0) → w ≡ newWord s c i
  unfolding newWord
  later-word zero f g e h = absurd (f (omega arith))
  later-word (suc zero) f g e h = absurd (g (omega arith))
  later-word (suc (suc j)) f g e h =
      let k : suc (suc j) - 2 ≡ j = omega arith in
      (rw (e, k) at h)

  pub change-written : {a b : List ℕ} {many i : ℕ} (o : List ℕ) (at : ℕ) → many ≡ newCount (s .n) (c .left) → i ≡ many → a ≡ putWord o at (c .left)
      → b ≡ putRun a (at + 1) i (newWord s c) → b ≡ putRuns o at (changeRuns s c)
  unfolding putRuns
  change-written o at em ei ea eb =
      eb ∙ ap₂ (λ (x : List ℕ) (m : ℕ). putRun x (at + 1) m (newWord s c)) (put-one o at (c .left) ea) (ei ∙ em)

-- ---- read

module _ {left : ℕ} (s : List ℕ) (n at : ℕ) (e : left ≡ wordAt s at) where
  pub load-none : {t : Pending} → left ≡ 0 → t ≡ nothing → t ≡ pendingIn s n at
  unfolding pendingIn
  load-none z h = h ∙ sym (cond-true _ _ (eq-eqb (wordAt s at) 0 (sym e ∙ z)))

  pub load-some : {v w : ℕ} {k : List ℕ} → (left ≡ 0 → ⊥) → v ≡ wordAt s (at + 1) → w ≡ wordAt s (at + 2)
      → k ≡ array n (λ j. criticalityIn (wordAt s (at + 3 + j))) → record { left = left; p = limitIn v; r = limitIn w; criticality = k } ≡ pendingIn s n at
  unfolding pendingIn
  load-some f ev ew ek =
      (λ i. record { left = e i; p = limitIn (ev i); r = limitIn (ew i); criticality = ek i })
      ∙ sym (cond-false _ _ (ne-eqb (wordAt s at) 0 (λ z. f (e ∙ z))))
