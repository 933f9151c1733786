-- The fault limit, read as facts: who is heard alike, and how many rows a vote can rely on. For every number of modules together.
use Prim.Native.Nat.{ℕ, ◌+◌, ◌*◌, ◌≤◌, ◌<◌}
use mathlib.Core.Path.{◌≡◌, refl, sym, ap, ap₂, ◌∙◌}
use mathlib.Core.Bool.{Bool, true, false, not, ◌&&◌, ◌||◌, beq}
use mathlib.Core.Logic.{◌⊎◌, inl, inr, ⊎_elim}
use native.Mathlib.Omega.{arith}
use native.Mathlib.Nat.{eq-zero-or-pos}
use lib.Dec.{eqb, leb, ltb}
use borrow.Author.Tests.{eqb-true, leb-true, ltb-true, not-true, not-false, eq-eqb}
use Rattle.words.specs.Count.{count, lowest}
use Rattle.words.proofs.Truth.{clash, which, and_l, and_r, and-true, and_false_r, or_l, or_r, or_cases, or-false-l, or-false-r, beq-eq}
use Rattle.words.proofs.CountLaws.{any-intro, any-witness, any-ext, any-empty, count-mono, count-ext, count-or, count-single}
use Rattle.words.proofs.LowestLaws.{lowest-zero, lowest-le, lowest-passes}
use Rattle.agreement.specs.Fault.{Round, Senders, first_follower, differ, half, heard, senders, half_in, breaker_in, unheard_in, within, kept_over, limit}

-- a module that follows the rules
pub record Follower (n : ℕ) (follows : ℕ → Bool) (i : ℕ) : Type 0 where
  pub below : i < n
  pub true-to : follows i ≡ true

-- where there is a rule-follower, the lowest is one
pub first-follower : (n : ℕ) (follows : ℕ → Bool) (i : ℕ) → Follower n follows i → Follower n follows (first_follower n follows)
first-follower n follows i f =
    let some : 0 < lowest n follows =
    ⊎_elim (λ (z : lowest n follows ≡ 0). clash (follows i) f.true-to (lowest-zero follows n z i f.below)) (λ h. h)
    (eq-zero-or-pos (lowest n follows)) in
    let le = lowest-le follows n in
    record { below = omega arith; true-to = lowest-passes follows n (first_follower n follows) (omega arith) }

within-cases : (N a s b : ℕ) → within N a s b ≡ true → (a + s ≡ 0) ⊎ ((a ≤ 1) × (2 * a + 2 * s + b + 1 < N))
unfolding within
within-cases N a s b e =
    ⊎_elim (λ t. inl (eqb-true (a + s) 0 t))
    (λ t. inr (leb-true a 1 (and_l (leb a 1) (ltb (2 * a + 2 * s + b + 1) N) t), ltb-true (2 * a + 2 * s + b + 1) N (and_r (leb a 1) (ltb (2 * a + 2 * s + b + 1) N) t)))
    (or_cases (eqb (a + s) 0) (leb a 1 && ltb (2 * a + 2 * s + b + 1) N) e)

-- ---- one round

-- two receivers hear a sender alike
pub record Alike (e : Round) (i i' j : ℕ) : Type 0 where
  pub hears : e.hears i j ≡ e.hears i' j
  pub word : e.hears i j ≡ true → e.word i j ≡ e.word i' j

alike_of : (e : Round) (i i' j : ℕ) → differ e i i' j ≡ false → Alike e i i' j
unfolding differ
alike_of e i i' j f =
    let same : e.hears i j ≡ e.hears i' j = beq-eq _ _ (not-false (beq (e.hears i j) (e.hears i' j)) (or-false-l _ _ f)) in
    record {
      hears = same;
      word = λ h.
          let g = or-false-r (not (beq (e.hears i j) (e.hears i' j))) _ f in
          let h' : e.hears i' j ≡ true = sym same ∙ h in
          eqb-true _ _ (not-false (eqb (e.word i j) (e.word i' j)) (rw (h, h') at g));
    }

differ-none : (e : Round) (i i' j : ℕ) → Alike e i i' j → differ e i i' j ≡ false
unfolding differ
differ-none e i i' j a =
    let s = a.hears in
    ⊎_elim (λ (t : e.hears i j ≡ true). let q = eq-eqb _ _ (a.word t) in cc) (λ (f : e.hears i j ≡ false). cc) (which (e.hears i j))

module _ (n : ℕ) (follows : ℕ → Bool) (e : Round) (j : ℕ) where
  pub half-none : ((i i' : ℕ) → Alike e i i' j) → half n follows e j ≡ false
  unfolding half
  half-none a =
      any-empty n _ (λ i hi. and_false_r (follows i) _ (any-empty n _ (λ i' hi'. and_false_r (follows i') _ (differ-none e i i' j (a i i')))))

  -- a sender that is not half heard is heard alike
  pub alike : half n follows e j ≡ false → (i i' : ℕ) → Follower n follows i → Follower n follows i' → Alike e i i' j
  unfolding half
  alike not-half i i' fi fi' =
      alike_of e i i' j
      (⊎_elim
      (λ (t : differ e i i' j ≡ true). clash (half n follows e j)
      (any-intro n _ i fi.below (and-true (follows i) _ fi.true-to
      (any-intro n (λ i'. follows i' && differ e i i' j) i' fi'.below (and-true (follows i') _ fi'.true-to t)))) not-half)
      (λ f. f) (which (differ e i i' j)))

  pub heard-of : (i : ℕ) → Follower n follows i → e.hears i j ≡ true → heard n follows e j ≡ true
  unfolding heard
  heard-of i fi h = any-intro n (λ i. follows i && e.hears i j) i fi.below (and-true (follows i) (e.hears i j) fi.true-to h)

  pub unheard-by : heard n follows e j ≡ false → (i : ℕ) → Follower n follows i → e.hears i j ≡ false
  unheard-by un i fi = ⊎_elim (λ t. clash (heard n follows e j) (heard-of i fi t) un) (λ f. f) (which (e.hears i j))

  -- heard by one and not half heard: heard by all
  pub heard-by : half n follows e j ≡ false → heard n follows e j ≡ true → (i : ℕ) → Follower n follows i → e.hears i j ≡ true
  unfolding heard
  heard-by not-half some i fi =
      let (i', hi', t) = any-witness n (λ i. follows i && e.hears i j) some in
      (alike not-half i i' fi (record { below = hi'; true-to = and_l (follows i') (e.hears i' j) t })).hears ∙ and_r (follows i') (e.hears i' j) t

-- ---- two rounds
cover : (q e a s b : Bool) → e ≡ true
    → q || (a || ((e && s) || ((e && b) || (not q && (e && (not a && (not s && not b))))))) ≡ true
cover true e a s b h = refl
cover false e true s b h = refl
cover false true false true b h = refl
cover false true false false true h = refl
cover false true false false false h = refl
cover false false false s b h = clash false h refl

module _ (n : ℕ) (follows elect : ℕ → Bool) (e e' : Round) where
  -- how both are heard
  abbrev this : Senders
  this = senders n follows e

  abbrev before : Senders
  before = senders n follows e'

  -- an elector other than j that is none of the three
  unfoldable pub reliable : ℕ → ℕ → Bool
  reliable j l =
      not (eqb l j) && (elect l && (not (half_in this before l) && (not (breaker_in follows this before l) && not (unheard_in follows this before l))))

  -- how many can be at fault: a + s
  abbrev pub faults : ℕ
  faults = count n (half_in this before) + count n (λ l. elect l && breaker_in follows this before l)

  quorum : (j : ℕ)
      → 2 * count n (half_in this before) + 2 * count n (λ l. elect l && breaker_in follows this before l)
      + count n (λ l. elect l && unheard_in follows this before l) + 1 < count n elect
      → faults < count n (reliable j)
  unfolding reliable
  quorum j h =
      let is_j : ℕ → Bool = λ l. eqb l j in
      let A : ℕ → Bool = half_in this before in
      let S : ℕ → Bool = λ l. elect l && breaker_in follows this before l in
      let B : ℕ → Bool = λ l. elect l && unheard_in follows this before l in
      let all = count-mono n elect (λ l. is_j l || (A l || (S l || (B l || reliable j l))))
      (λ l _ t. cover (eqb l j) (elect l) (A l) (breaker_in follows this before l) (unheard_in follows this before l) t) in
      omega (
        arith,
        count-single n j,
        all,
        count-or n is_j (λ l. A l || (S l || (B l || reliable j l))),
        count-or n A (λ l. S l || (B l || reliable j l)),
        count-or n S (λ l. B l || reliable j l),
        count-or n B (reliable j),
      )

  -- Where the limit is kept, nobody is at fault; or at most one is half heard, and on each module more rows are reliable than can be at fault.
  pub limit-cases : limit n follows elect e e' ≡ true
      → (faults ≡ 0) ⊎ ((count n (half_in this before) ≤ 1) × ((j : ℕ) → faults < count n (reliable j)))
  unfolding limit kept_over
  limit-cases t = ⊎_elim inl (λ h. inr (h.0, λ j. quorum j h.1)) (within-cases _ _ _ _ t)

  -- what a reliable row's sender is
  pub record Reliable (j l : ℕ) : Type 0 where
    pub other : eqb l j ≡ false
    pub elected : elect l ≡ true
    pub true-to : follows l ≡ true
    pub hears : (i : ℕ) → Follower n follows i → e.hears i l ≡ true

  pub reliable-is : (j l : ℕ) → reliable j l ≡ true → Reliable j l
  unfolding reliable half_in breaker_in unheard_in
  reliable-is j l s =
      let s₁ = and_r (not (eqb l j)) _ s in
      let s₂ = and_r (elect l) _ s₁ in
      let s₃ = and_r (not (half_in this before l)) _ s₂ in
      let not-half : half_in this before l ≡ false = not-true _ (and_l _ _ s₂) in
      let unbreaker_in : breaker_in follows this before l ≡ false = not-true _ (and_l _ _ s₃) in
      let twice-heard : unheard_in follows this before l ≡ false = not-true _ (and_r (not (breaker_in follows this before l)) _ s₃) in
      let both : not (heard n follows e l) || not (heard n follows e' l) ≡ false = rw (unbreaker_in, not-half) at twice-heard in
      let here : heard n follows e l ≡ true = not-false _ (or-false-l _ _ both) in
      record {
        other = not-true _ (and_l _ _ s);
        elected = and_l _ _ s₁;
        true-to =
            ⊎_elim (λ t. t) (λ (f : follows l ≡ false). clash (heard n follows e l) here (or-false-l _ (heard n follows e' l) (rw (not-half, f) at unbreaker_in)))
            (which (follows l));
        hears = heard-by n follows e l (or-false-l _ _ not-half) here;
      }

  -- A rule-breaker that a rule-follower hears in the first round is halfIn or breakerIn.
  pub fault-of : (i l : ℕ) → Follower n follows i → e.hears i l ≡ true → follows l ≡ false
      → half_in this before l || breaker_in follows this before l ≡ true
  unfolding breaker_in
  fault-of i l fi h f =
      ⊎_elim (λ t. or_l _ (breaker_in follows this before l) t)
      (λ (c : half_in this before l ≡ false). or_r (half_in this before l) _
      (rw (c, f) (or_l (heard n follows e l) (heard n follows e' l) (heard-of n follows e l i fi h))))
      (which (half_in this before l))

-- ---- rounds whose senders below n are heard alike

pub record SendersAlike (n : ℕ) (h g : Senders) : Type 0 where
  pub half : (j : ℕ) → j < n → h.half j ≡ g.half j
  pub heard : (j : ℕ) → j < n → h.heard j ≡ g.heard j

module _ (n : ℕ) (follows : ℕ → Bool) (r r' : Round) (hears : (i j : ℕ) → i < n → j < n → r.hears i j ≡ r'.hears i j)
    (words : (i j : ℕ) → i < n → j < n → r.word i j ≡ r'.word i j) where
  pub senders-alike : SendersAlike n (senders n follows r) (senders n follows r')
  unfolding half heard differ
  senders-alike = record {
    half = λ j hj.
        any-ext n _ _
        (λ i hi.
        ap (λ (x : Bool). follows i && x)
        (any-ext n _ _ (λ i' hi'. rw (hears i j hi hj, hears i' j hi' hj, words i j hi hj, words i' j hi' hj) refl)));
    heard = λ j hj. any-ext n _ _ (λ i hi. ap (λ (x : Bool). follows i && x) (hears i j hi hj));
  }

module _ (n : ℕ) (follows in_view : ℕ → Bool) (h h' g g' : Senders) (a : SendersAlike n h g) (a' : SendersAlike n h' g') where
  half-same : (j : ℕ) → j < n → half_in h h' j ≡ half_in g g' j
  unfolding half_in
  half-same j hj = ap₂ (λ (x y : Bool). x || y) (a.half j hj) (a'.half j hj)

  breaker-same : (j : ℕ) → j < n → breaker_in follows h h' j ≡ breaker_in follows g g' j
  unfolding breaker_in
  breaker-same j hj =
      ap₂ (λ (x y : Bool). not x && (not (follows j) && y)) (half-same j hj) (ap₂ (λ (x y : Bool). x || y) (a.heard j hj) (a'.heard j hj))

  unheard-same : (j : ℕ) → j < n → unheard_in follows h h' j ≡ unheard_in follows g g' j
  unfolding unheard_in
  unheard-same j hj =
      ap₂ (λ (x y : Bool). not x && y) (half-same j hj)
      (ap₂ (λ (x y : Bool). not x && y) (breaker-same j hj) (ap₂ (λ (x y : Bool). not x || not y) (a.heard j hj) (a'.heard j hj)))

  pub kept-alike : kept_over n follows in_view h h' ≡ kept_over n follows in_view g g'
  unfolding kept_over
  kept-alike =
      let a = count-ext n _ _ half-same in
      let s = count-ext n _ _ (λ j hj. ap (λ (x : Bool). in_view j && x) (breaker-same j hj)) in
      let b = count-ext n _ _ (λ j hj. ap (λ (x : Bool). in_view j && x) (unheard-same j hj)) in
      rw (a, s, b) refl
