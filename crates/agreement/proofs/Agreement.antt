-- The core of demand 3: while the fault limit is kept, rule-followers agree, see who was unheard, and do not charge one another without cause.
use Prim.Native.Nat.{ℕ, zero, suc, ◌+◌, ◌-◌, ◌≤◌, ◌<◌}
use mathlib.Core.Path.{◌≡◌, refl, sym, ap, ap₂, ◌∙◌}
use mathlib.Core.Bool.{Bool, true, false, not, ◌&&◌, ◌||◌, beq}
use mathlib.Core.Logic.{◌⊎◌, inl, inr, ⊎_elim}
use native.Mathlib.Omega.{arith}
use native.Mathlib.Nat.{le_refl, le_of_eq, eq-or-lt_of_le}
use lib.Dec.{eqb}
use borrow.Author.Tests.{not-true, eqb-false}
use Rattle.words.specs.Bits.{bit}
use Rattle.words.specs.Count.{count}
use Rattle.words.proofs.Truth.{clash, which, and_l, and_r, and-true, or_l, or_r, or_cases, or-false-l, beq-refl}
use Rattle.words.proofs.CountLaws.{any-ext, any-empty, count-mono, count-or, count_none, count-zero, count-one}
use Rattle.vote.specs.Vote.{tally}
use Rattle.vote.proofs.VoteLaws.{same, tally-value, tally-ext}
use Rattle.agreement.specs.Fault.{half, heard, senders, half_in, breaker_in}
use Rattle.agreement.proofs.FaultLaws.{Follower, limit-cases, reliable, alike, unheard-by, Reliable, reliable-is, fault-of}
use Rattle.agreement.proofs.Protocol.{Protocol, Agree, now, past, present, says, row_differs, Kept, Rules}

same-eq : (b v : Bool) → b ≡ v → same b v ≡ true
same-eq b true e = e
same-eq b false e = ap not e

and-not : (a x : Bool) → x ≡ true → a && not x ≡ false
and-not true x e = ap not e
and-not false x e = refl

agrees_at : (q a b : Bool) → (q ≡ false → a ≡ b) → not q && not (beq a b) ≡ false
agrees_at true a b h = refl
agrees_at false a b h = rw (h refl) (ap not (beq-refl b))

stays-set : (a p q : Bool) → a ≡ true → q ≡ false → a && not (p && q) ≡ true
stays-set a true q t f = rw (t, f)
stays-set a false q t f = rw t

row-alike : (a c h s s' : Bool) → (h ≡ true → s ≡ s') → a && (c && h) && s ≡ a && (c && h) && s'
row-alike a c true s s' e = ap (λ x. a && (c && true) && x) (e refl)
row-alike true true false s s' e = refl
row-alike true false false s s' e = refl
row-alike false c false s s' e = refl

module _ (P : Protocol) (last : ℕ) (R : Rules P last) where
  open P use {n, u, follows, round, elect, counted, syn, health}

  -- A sender that is not half heard in a step's deciding round has the same syndrome bit everywhere.
  same_bit : (m : ℕ) → m ≤ last → ((k : ℕ) → k ≤ m → Agree P k) → (j : ℕ) → j < n → half n follows (round (m - u)) j ≡ false
      → (l l' : ℕ) → Follower n follows l → Follower n follows l' → syn m l j ≡ syn m l' j
  same_bit zero hm ag j hj not-half l l' fl fl' = R.start-syn l j fl hj ∙ sym (R.start-syn l' j fl' hj)
  same_bit (suc m) hm ag j hj not-half l l' fl fl' =
      let a = alike n follows (now P (suc m)) j not-half l l' fl fl' in
      let c : counted (suc m) l j ≡ counted (suc m) l' j
      = R.counting (suc m) l j hm (λ k h. ag k (omega arith)) fl hj ∙ sym (R.counting (suc m) l' j hm (λ k h. ag k (omega arith)) fl' hj) in
      let left = R.marked m l j fl hj in
      let right = R.marked m l' j fl' hj in
      ⊎_elim
      (λ (t : (now P (suc m)).hears l j ≡ true).
      let q : row_differs P (suc m) l j ≡ row_differs P (suc m) l' j
      = any-ext n _ _ (λ h hh. ap₂ (λ a b. not (eqb h j) && not (beq a b)) (ap (λ w. bit w h) (a.word t)) (ag (suc m) (le_refl (suc m)) l l' h fl fl' hh)) in
      cc)
      (λ (f : (now P (suc m)).hears l j ≡ false). cc)
      (which ((now P (suc m)).hears l j))

  -- ---- one step, whose steps before agree
  module _ (k : ℕ) (hk : suc k ≤ last) (ag : (m : ℕ) → m < suc k → Agree P m) where
    -- whose rows vote on j at i
    votes : ℕ → ℕ → ℕ → Bool
    votes i j l = not (eqb l j) && present P (suc k) i l

    votes-hears : (i j l : ℕ) → votes i j l ≡ true → (now P (suc k)).hears i l ≡ true
    unfolding votes
    votes-hears i j l t = and_r (counted (suc k) i l) _ (and_r (not (eqb l j)) _ t)

    votes-elect : (i j l : ℕ) → Follower n follows i → l < n → votes i j l ≡ true → elect (suc k) l ≡ true
    unfolding votes
    votes-elect i j l fi hl t = sym (R.counting (suc k) i l hk ag fi hl) ∙ and_l (counted (suc k) i l) _ (and_r (not (eqb l j)) _ t)

    -- a reliable row votes, whoever hears it
    ReliableRow : ℕ → ℕ → Type 0
    ReliableRow = Reliable n follows (elect (suc k)) (now P (suc k)) (past P (suc k))

    reliable-votes : (i j l : ℕ) → Follower n follows i → l < n → ReliableRow j l → votes i j l ≡ true
    unfolding votes ReliableRow
    reliable-votes i j l fi hl s =
        and-true (not (eqb l j)) _ (ap not s.other)
        (and-true (counted (suc k) i l) _ (R.counting (suc k) i l hk ag fi hl ∙ s.elected) (s.hears i fi))

    -- a rule-follower's row says its syndrome
    says-syn : (i j l : ℕ) → Follower n follows i → Follower n follows l → j < n → (now P (suc k)).hears i l ≡ true
        → says P (suc k) i l j ≡ syn (suc k - u - 1) l j
    says-syn i j l fi fl hj h = R.sent (suc k - u) i l j (omega arith) fi fl hj h

    -- who can be at fault, by the limit of this step
    abbrev A : ℕ → Bool
    A = half_in (senders n follows (now P (suc k))) (senders n follows (past P (suc k)))

    abbrev S : ℕ → Bool
    S l = elect (suc k) l && breaker_in follows (senders n follows (now P (suc k))) (senders n follows (past P (suc k))) l

    abbrev ruled : ℕ → Type 0
    ruled j = count n A + count n S < count n (reliable n follows (elect (suc k)) (now P (suc k)) (past P (suc k)) j)

    -- so many votes pass any test that all rule-followers' votes pass
    quorum-votes : (i j : ℕ) → Follower n follows i → (p : ℕ → Bool)
        → ((l : ℕ) → l < n → Follower n follows l → votes i j l ≡ true → p l ≡ true)
        → ruled j → count n A + count n S < count n p
    unfolding ReliableRow
    quorum-votes i j fi p passes h =
        let more = count-mono n (reliable n follows (elect (suc k)) (now P (suc k)) (past P (suc k)) j) p
        (λ l hl t. let s = reliable-is n follows (elect (suc k)) (now P (suc k)) (past P (suc k)) j l t in
        passes l hl (record { below = hl; true-to = s.true-to }) (reliable-votes i j l fi hl s)) in
        omega arith

    -- What all rule-followers report of j is what each of them decides.
    common : Kept P (suc k) → (j : ℕ) → j < n → (v : Bool) → ((l : ℕ) → Follower n follows l → syn (suc k - u - 1) l j ≡ v)
        → (i : ℕ) → Follower n follows i → health (suc k) i j ≡ v
    unfolding votes
    common kept j hj v all i fi =
        R.voted k i j fi hj ∙ ⊎_elim early (λ t. late (limit-cases _ _ _ _ _ t)) kept
      where
        bits : ℕ → Bool
        bits l = says P (suc k) i l j

        right : (l : ℕ) → Follower n follows l → votes i j l ≡ true → same (bits l) v ≡ true
        right l fl t = same-eq (bits l) v (says-syn i j l fi fl hj (votes-hears i j l t) ∙ all l fl)

        early : suc k - u ≡ 0 → tally n (votes i j) bits (syn (suc k - u - 1) i j) ≡ v
        early e =
            let v-is : v ≡ true = sym (all i fi) ∙ ap (λ m. syn m i j) (omega arith) ∙ R.start-syn i j fi hj in
            tally-value n (votes i j) bits _ v 0 (all i fi)
            (le_of_eq (count_none n (λ l. votes i j l && not (same (bits l) v))
            (λ l hl. and-not (votes i j l) _ (same-eq (bits l) v (ap (λ m. bit ((round m).word i l) j) e ∙ R.start-says i l j hj ∙ sym v-is)))))
            (inl refl)

        wrong : count n (λ l. votes i j l && not (same (bits l) v)) ≤ count n A + count n S
        wrong =
            omega (
              arith,
              count-or n A S,
              count-mono n (λ l. votes i j l && not (same (bits l) v)) (λ l. A l || S l)
                  (λ l hl t.
                  let tv = and_l (votes i j l) _ t in
                  ⊎_elim
                  (λ f. clash (same (bits l) v) (right l (record { below = hl; true-to = f }) tv) (not-true _ (and_r (votes i j l) _ t)))
                  (λ f. ⊎_elim (λ a. or_l (A l) (S l) a) (λ b. or_r (A l) (S l) (and-true (elect (suc k) l) _ (votes-elect i j l fi hl tv) b))
                  (or_cases _ _ (fault-of n follows (elect (suc k)) (now P (suc k)) (past P (suc k)) i l fi (votes-hears i j l tv) f)))
                  (which (follows l))),
            )

        late : (count n A + count n S ≡ 0) ⊎ ((count n A ≤ 1) × ((j : ℕ) → ruled j))
            → tally n (votes i j) bits (syn (suc k - u - 1) i j) ≡ v
        late (inl z) = tally-value n (votes i j) bits _ v (count n A + count n S) (all i fi) wrong (inl z)
        late (inr h) =
            tally-value n (votes i j) bits _ v (count n A + count n S) (all i fi) wrong
            (inr (quorum-votes i j fi (λ l. votes i j l && same (bits l) v) (λ l hl fl t. and-true (votes i j l) _ t (right l fl t)) (h.1 j)))

    -- Rows of one sender that is heard alike count alike.
    votes-alike : (i i' j l : ℕ) → Follower n follows i → Follower n follows i' → j < n → l < n
        → (eqb l j ≡ false → half n follows (now P (suc k)) l ≡ false)
        → (votes i j l ≡ votes i' j l) × (votes i j l && says P (suc k) i l j ≡ votes i' j l && says P (suc k) i' l j)
    unfolding votes
    votes-alike i i' j l fi fi' hj hl not-half =
        ⊎_elim (λ (e : eqb l j ≡ true). (cc, cc))
        (λ (e : eqb l j ≡ false).
        let a = alike n follows (now P (suc k)) l (not-half e) i i' fi fi' in
        let c = R.counting (suc k) i l hk ag fi hl in
        let c' = R.counting (suc k) i' l hk ag fi' hl in
        let r = row-alike (not (eqb l j)) (counted (suc k) i l) _ _ _ (λ t. ap (λ w. bit w j) (a.word t)) in
        (cc, cc))
        (which (eqb l j))

    agree-step : Kept P (suc k) → Agree P (suc k)
    unfolding votes half_in
    agree-step kept i i' j fi fi' hj = ⊎_elim halfheard not-half (which (half n follows (round (suc k - u - 1 - u)) j))
      where
        not-half : half n follows (round (suc k - u - 1 - u)) j ≡ false → health (suc k) i j ≡ health (suc k) i' j
        not-half c =
            let all : (l : ℕ) → Follower n follows l → syn (suc k - u - 1) l j ≡ syn (suc k - u - 1) i j
            = λ l fl. same_bit (suc k - u - 1) (omega arith) (λ m h. ag m (omega arith)) j hj c l i fl fi in
            common kept j hj _ all i fi ∙ sym (common kept j hj _ all i' fi')

        halfheard : half n follows (round (suc k - u - 1 - u)) j ≡ true → health (suc k) i j ≡ health (suc k) i' j
        halfheard t = ⊎_elim early (λ h. late (limit-cases _ _ _ _ _ h)) kept
          where
            in-A : A j ≡ true
            in-A = or_r (half n follows (now P (suc k)) j) _ (ap (λ m. half n follows (round m) j) (omega arith) ∙ t)

            early : suc k - u ≡ 0 → health (suc k) i j ≡ health (suc k) i' j
            early e = clash _ (ap (λ m. half n follows (round m) j) (omega arith) ∙ t) (R.start-not-half j)

            late : (count n A + count n S ≡ 0) ⊎ ((count n A ≤ 1) × ((j : ℕ) → ruled j))
                → health (suc k) i j ≡ health (suc k) i' j
            late (inl z) = clash (A j) in-A (count-zero n A (omega arith) j hj)
            late (inr h) =
                let only : (l : ℕ) → l < n → eqb l j ≡ false → half n follows (now P (suc k)) l ≡ false
                = λ l hl e. or-false-l _ (half n follows (past P (suc k)) l)
                (⊎_elim (λ a. absurd (eqb-false l j e (count-one n A h.0 l j hl hj a in-A))) (λ f. f) (which (A l))) in
                let some : 0 < count n (votes i j) = omega (arith, quorum-votes i j fi (votes i j) (λ l hl fl t. t) (h.1 j)) in
                R.voted k i j fi hj
                ∙ tally-ext n (votes i j) (λ l. says P (suc k) i l j) (votes i' j) (λ l. says P (suc k) i' l j) _ _
                (λ l hl. (votes-alike i i' j l fi fi' hj hl (only l hl)).0) (λ l hl. (votes-alike i i' j l fi fi' hj hl (only l hl)).1) (inl some)
                ∙ sym (R.voted k i' j fi' hj)

  -- ---- all steps

  -- Rule-followers agree in every step up to k, if the limit is kept in each.
  pub agrees : (k : ℕ) → k ≤ last → ((m : ℕ) → m ≤ k → Kept P m) → (m : ℕ) → m ≤ k → Agree P m
  agrees zero hk kept m hm = λ i i' j fi fi' hj.
      let e : m ≡ 0 = omega arith in
      rw e (R.start-health i j fi hj ∙ sym (R.start-health i' j fi' hj))
  agrees (suc k) hk kept m hm =
      let before = agrees k (omega arith) (λ m h. kept m (omega arith)) in
      ⊎_elim (λ (e : m ≡ suc k). rw e (agree-step k hk (λ m h. before m (omega arith)) (kept (suc k) (le_refl (suc k))))) (λ h. before m (omega arith)) (eq-or-lt_of_le hm)

  syn-unheard : (m j : ℕ) → j < n → heard n follows (round (m - u)) j ≡ false → (l : ℕ) → Follower n follows l → syn m l j ≡ false
  syn-unheard zero j hj un l fl =
      clash _ (R.start-hears l j) (ap (λ m. (round m).hears l j) (omega arith) ∙ unheard-by n follows (round (0 - u)) j un l fl)
  syn-unheard (suc m) j hj un l fl =
      let f = unheard-by n follows (now P (suc m)) j un l fl in
      let e = R.marked m l j fl hj in
      cc

  syn-heard : (m : ℕ) → m ≤ last → ((k : ℕ) → k ≤ m → Agree P k) → Kept P m → (j : ℕ) → Follower n follows j
      → ((l : ℕ) → Follower n follows l → (round (m - u)).hears l j ≡ true)
      → ((h : ℕ) → h < n → eqb h j ≡ false → half n follows (round (m - u - u - 1)) h ≡ false)
      → (l : ℕ) → Follower n follows l → syn m l j ≡ true
  syn-heard zero hm ag kept j fj here not-half l fl = R.start-syn l j fl fj.below
  syn-heard (suc m) hm ag kept j fj here not-half l fl =
      let q : row_differs P (suc m) l j ≡ false
      = any-empty n _ (λ h hh. agrees_at (eqb h j) _ _ (λ other.
      R.sent (suc m - u) l j h (omega arith) fl fj hh (here l fl)
      ∙ sym (common m hm (λ k g. ag k (omega arith)) kept h hh _
      (λ l' fl'. same_bit (suc m - u - 1) (omega arith) (λ k g. ag k (omega arith)) h hh
      (ap (λ r. half n follows (round r) h) (omega arith) ∙ not-half h hh other) l' j fl' fj) l fl))) in
      R.marked m l j fl fj.below ∙ stays-set _ (present P (suc m) l j) _ (here l fl) q

  -- Whoever is unheard in the round that step k judges has health 0.
  pub complete : (k : ℕ) → suc k ≤ last → ((m : ℕ) → m ≤ suc k → Kept P m) → (j : ℕ) → j < n
      → heard n follows (round (suc k - u - 1 - u)) j ≡ false → (i : ℕ) → Follower n follows i → health (suc k) i j ≡ false
  complete k hk kept j hj un =
      common k hk (λ m h. agrees k (omega arith) (λ m h. kept m (omega arith)) m (omega arith)) (kept (suc k) (le_refl (suc k))) j hj false
      (syn-unheard (suc k - u - 1) j hj un)

  -- A rule-follower that all rule-followers hear in that round has health 1, unless another sender was half heard u + 1 rounds before.
  pub correct : (k : ℕ) → suc k ≤ last → ((m : ℕ) → m ≤ suc k → Kept P m) → (j : ℕ) → Follower n follows j
      → ((l : ℕ) → Follower n follows l → (round (suc k - u - 1 - u)).hears l j ≡ true)
      → ((h : ℕ) → h < n → eqb h j ≡ false → half n follows (round (suc k - u - 1 - u - u - 1)) h ≡ false)
      → (i : ℕ) → Follower n follows i → health (suc k) i j ≡ true
  correct k hk kept j fj here not-half =
      let ag = agrees k (omega arith) (λ m h. kept m (omega arith)) in
      common k hk (λ m h. ag m (omega arith)) (kept (suc k) (le_refl (suc k))) j fj.below true
      (syn-heard (suc k - u - 1) (omega arith) (λ m h. ag m (omega arith)) (kept (suc k - u - 1) (omega arith)) j fj here not-half)
