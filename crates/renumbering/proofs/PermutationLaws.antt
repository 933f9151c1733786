-- Counting, searching and voting do not depend on how the modules are numbered.
use Prim.Native.Nat.{ℕ, zero, suc, ◌+◌, ◌≤◌, ◌<◌, zero-le}
use mathlib.Core.Path.{◌≡◌, refl, sym, ap, ap₂, ◌∙◌}
use mathlib.Core.Bool.{Bool, true, false, not, ◌&&◌}
use mathlib.Core.Logic.{⊎_elim}
use native.Mathlib.Omega.{arith}
use native.Mathlib.Nat.{lt-suc_self}
use lib.Dec.{eqb}
use borrow.Author.Tests.{eqb-true, ne_eqb, eq-eqb}
use Rattle.words.specs.Bits.{b2n}
use Rattle.words.specs.Count.{count, any, all}
use Rattle.words.proofs.Truth.{which, and-true, iff-eq}
use Rattle.words.proofs.CountLaws.{count-mono, count-ext, count-split, count-pos, any-intro, any-witness, all-at, all-intro}
use Rattle.vote.specs.Vote.{tally}
use Rattle.renumbering.specs.Renumbering.{Renumbering}

-- j is counted once, and the rest without it
count-without : (n : ℕ) (p : ℕ → Bool) (j : ℕ) → j < n → b2n (p j) + count n (λ l. p l && not (eqb l j)) ≤ count n p
count-without n p j h =
    ⊎_elim
    (λ (t : p j ≡ true).
    let here = count-pos n (λ l. p l && eqb l j) j h (and-true (p j) _ t (eq-eqb j j refl)) in
    omega (arith, count-split n p (λ l. eqb l j), ap b2n t))
    (λ (f : p j ≡ false). omega (arith, count-split n p (λ l. eqb l j), ap b2n f))
    (which (p j))

-- where no two of n numbers go to the same one below m, as many pass at least there
count-into : (n m : ℕ) (f : ℕ → ℕ) (p : ℕ → Bool) → ((l : ℕ) → l < n → f l < m)
    → ((l l' : ℕ) → l < n → l' < n → f l ≡ f l' → l ≡ l') → count n (λ l. p (f l)) ≤ count m p
unfolding count
count-into zero m f p into inj = zero-le
count-into (suc n) m f p into inj =
    let rest = count-into n m f (λ j. p j && not (eqb j (f n))) (λ l h. into l (omega arith)) (λ l l' h h'. inj l l' (omega arith) (omega arith)) in
    let same = count-mono n (λ l. p (f l)) (λ l. p (f l) && not (eqb (f l) (f n)))
    (λ l h t. and-true (p (f l)) _ t (ap not (ne_eqb (f l) (f n) (λ e. let q = inj l n (omega arith) (lt-suc_self n) e in omega arith)))) in
    omega (arith, count-without m p (f n) (into n (lt-suc_self n)))

module _ (n : ℕ) (π : Renumbering n) where
  -- two modules that were the same are the same, and the other way round
  pub from-inj : (l l' : ℕ) → l < n → l' < n → π.from l ≡ π.from l' → l ≡ l'
  from-inj l l' h h' e = sym (π.to-from l h) ∙ ap π.to e ∙ π.to-from l' h'

  to-inj : (l l' : ℕ) → l < n → l' < n → π.to l ≡ π.to l' → l ≡ l'
  to-inj l l' h h' e = sym (π.from-to l h) ∙ ap π.from e ∙ π.from-to l' h'

  pub eqb-renumbered : (l j : ℕ) → l < n → j < n → eqb l j ≡ eqb (π.from l) (π.from j)
  eqb-renumbered l j hl hj =
      iff-eq (eqb l j) (eqb (π.from l) (π.from j)) (λ t. eq-eqb _ _ (ap π.from (eqb-true l j t)))
      (λ t. eq-eqb l j (from-inj l j hl hj (eqb-true _ _ t)))

  module _ (p p' : ℕ → Bool) (same : (l : ℕ) → l < n → p' l ≡ p (π.from l)) where
    pub count-renumbered : count n p' ≡ count n p
    count-renumbered =
        let moved = count-ext n p' (λ l. p (π.from l)) same in
        let down = count-into n n π.from p π.from-below from-inj in
        let up = count-into n n π.to (λ l. p (π.from l)) π.to_below to-inj in
        let back = count-ext n (λ l. p (π.from (π.to l))) p (λ l h. ap p (π.from-to l h)) in
        omega arith

    pub any-renumbered : any n p' ≡ any n p
    any-renumbered =
        iff-eq (any n p') (any n p)
        (λ t. let (l, h, e) = any-witness n p' t in any-intro n p (π.from l) (π.from-below l h) (sym (same l h) ∙ e))
        (λ t. let (l, h, e) = any-witness n p t in
        any-intro n p' (π.to l) (π.to_below l h) (same (π.to l) (π.to_below l h) ∙ ap p (π.from-to l h) ∙ e))

    pub all-renumbered : all n p' ≡ all n p
    all-renumbered =
        iff-eq (all n p') (all n p)
        (λ t. all-intro n p (λ l h. ap p (sym (π.from-to l h)) ∙ sym (same (π.to l) (π.to_below l h)) ∙ all-at n p' t (π.to l) (π.to_below l h)))
        (λ t. all-intro n p' (λ l h. same l h ∙ all-at n p t (π.from l) (π.from-below l h)))

  -- a vote with the same rows under other numbers
  pub tally-renumbered : (p q p' q' : ℕ → Bool) (own own' : Bool) → ((l : ℕ) → l < n → p' l ≡ p (π.from l))
      → ((l : ℕ) → l < n → q' l ≡ q (π.from l)) → own' ≡ own → tally n p' q' own' ≡ tally n p q own
  unfolding tally
  tally-renumbered p q p' q' own own' hp hq e =
      let c = count-renumbered p p' hp in
      let d = count-renumbered (λ l. p l && q l) (λ l. p' l && q' l) (λ l h. ap₂ (λ (a b : Bool). a && b) (hp l h) (hq l h)) in
      cc
