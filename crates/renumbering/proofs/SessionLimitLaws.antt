-- What binds a renumbered session, and its fault limit.
use Prim.Native.Nat.{ℕ, zero, suc, ◌+◌, ◌-◌, ◌≤◌, ◌<◌}
use mathlib.Core.Path.{◌≡◌, refl, sym, ap, ap₂, ◌∙◌}
use mathlib.Core.Bool.{Bool, true, false, not, ◌&&◌}
use mathlib.Core.Logic.{⊎_elim}
use native.Mathlib.Omega.{arith}
use Rattle.words.specs.Bits.{bit, b2n}
use Rattle.words.specs.Count.{any, all}
use Rattle.words.proofs.Truth.{which}
use Rattle.words.proofs.CountLaws.{any-witness, any_none, all-at}
use Rattle.rules.specs.Hearing.{entry_of}
use Rattle.rules.specs.Hearing.{Entry}
use Rattle.presence.specs.declared.State.{State}
use Rattle.agreement.specs.Fault.{limit}
use Rattle.agreement.specs.Session.{Session, Accepted, size, u, follows, RuleFollower, bit_in, word_in, view_word_in, hears_view, round, sent, Bound, view_word_sent, BoundViews, view_of, kept_by, kept}
use Rattle.agreement.specs.Existence.{NoChanges}
use Rattle.agreement.proofs.Demand.{demand-3}
use Rattle.agreement.proofs.Without.{common-without}
use Rattle.renumbering.specs.Renumbering.{Renumbering, word_for}
use Rattle.renumbering.specs.Sessions.{Renumbered}
use Rattle.renumbering.proofs.VectorForLaws.{vector-bit}
use Rattle.renumbering.proofs.LimitForLaws.{RoundFor, limit-for, no-followers}
use Rattle.renumbering.proofs.SetupForLaws.{straight'}
use Rattle.renumbering.proofs.SessionForLaws.{S', ok', word-for, view-for, hears-view-for, entry-at, state-for, sent-for, view-sent-for}

-- without rule-followers the limit is kept
alone : (S : Session) (ρ : ℕ) → ((j : ℕ) → j < size S → follows S j ≡ false) → kept S ρ ≡ true
unfolding kept_by
alone S ρ none = no-followers (size S) (follows S) _ _ _ none

and_both : (a a' b b' : Bool) → a' ≡ a → (a ≡ true → b' ≡ b) → a' && b' ≡ a && b
and_both true a' b b' e f = ap₂ (λ (x y : Bool). x && y) e (f refl)
and_both false a' b b' e f = ap (λ (x : Bool). x && b') e

module _ (S : Session) (ok : Accepted S) (unoffered : NoChanges S) (zero-u : u S ≡ 0) (π : Renumbering (size S)) (T : Session) (r : Renumbered S π T) where
  abbrev n : ℕ
  n = size S

  abbrev R : Session
  R = S' S ok unoffered zero-u π T r

  pub lag' : u R ≡ 0
  lag' = ap b2n (straight' S.setup π ok zero-u)

  round-for : (k : ℕ) → RoundFor n π (round S k) (round R k)
  round-for k = record {
    hears = λ i j hi hj.
        ap₂ (λ (x y : ℕ). (entry_of n (bit_in R k x y) (word_in R k x y)).heard) (sym (π.to-from i hi)) (sym (π.to-from j hj))
        ∙ ap (λ (e : Entry). e.heard) (entry-at S ok unoffered zero-u π T r k (π.from i) (π.from j) (π.from-below i hi) (π.from-below j hj));
    word = λ i j hi hj.
        ap₂ (word_in R k) (sym (π.to-from i hi)) (sym (π.to-from j hj))
        ∙ word-for S ok unoffered zero-u π T r k (π.from i) (π.from j) (π.from-below i hi) (π.from-below j hj);
  }

  follows-for : (j : ℕ) → j < n → follows R j ≡ follows S (π.from j)
  follows-for j h = ap not (ap (bit T.cast) (sym (π.to-from j h)) ∙ r.cast (π.from j) (π.from-below j h))

  follower-from : (i : ℕ) → RuleFollower R i → RuleFollower S (π.from i)
  follower-from i f = record { below = π.from-below i f.below; true-to = sym (follows-for i f.below) ∙ f.true-to }

  follower-to : (i : ℕ) → RuleFollower S i → RuleFollower R (π.to i)
  follower-to i f =
      let b = π.to_below i f.below in
      record { below = b; true-to = follows-for (π.to i) b ∙ ap (follows S) (π.from-to i f.below) ∙ f.true-to }

  pub kept_for : (i : ℕ) → i < n → (ρ : ℕ) → kept_by R (π.to i) ρ ≡ kept_by S i ρ
  unfolding kept_by
  kept_for i below ρ =
      let e : u R ≡ u S = lag' ∙ sym zero-u in
      ap (λ (x : ℕ). limit n (follows R) (bit (view_of R (π.to i) (ρ + x - 1))) (round R ρ) (round R (ρ - x - 1))) e
      ∙ limit-for n π (follows S) (follows R) follows-for (round S ρ) (round R ρ) (round S (ρ - u S - 1)) (round R (ρ - u S - 1))
      (round-for ρ) (round-for (ρ - u S - 1)) (bit (view_of S i (ρ + u S - 1))) (bit (view_of R (π.to i) (ρ + u S - 1)))
      (λ j h. ap (λ (st : State). bit st.counters.view j) (state-for S ok unoffered zero-u π T r i below (ρ + u S - 1)) ∙ vector-bit n π _ j h)

  pub bound-views' : (last : ℕ) → BoundViews S last → BoundViews R last
  bound-views' last bound p k i l pos hk fi fl t =
      let bi = π.from-below i fi.below in
      let bl = π.from-below l fl.below in
      let heard : hears_view S k (π.from i) (π.from l) ≡ true
      = sym (hears-view-for S ok unoffered zero-u π T r p k (π.from i) (π.from l) bi bl)
      ∙ ap₂ (hears_view R k) (π.to-from i fi.below) (π.to-from l fl.below) ∙ t in
      let said : view_word_in S k (π.from i) (π.from l) ≡ view_word_sent S (π.from l) k
      = bound p k (π.from i) (π.from l) pos hk (follower-from i fi) (follower-from l fl) heard in
      ap₂ (view_word_in R k) (sym (π.to-from i fi.below)) (sym (π.to-from l fl.below))
      ∙ view-for S ok unoffered zero-u π T r p k (π.from i) (π.from l) bi bl ∙ ap (word_for n π) said ∙ resent k pos l fl.below
    where
      resent : (k : ℕ) → 0 < k → (l : ℕ) → l < n → word_for n π (view_word_sent S (π.from l) k) ≡ view_word_sent R l k
      resent zero pos l h = absurd (omega arith)
      resent (suc k) pos l h =
          sym (view-sent-for S ok unoffered zero-u π T r (π.from l) (π.from-below l h) k) ∙ ap (λ (m : ℕ). view_word_sent R m (suc k)) (π.to-from l h)

  module _ (last : ℕ) (bound : Bound S last) where
    pub bound' : Bound R last
    bound' k i l pos hk fi fl t =
        let bi = π.from-below i fi.below in
        let bl = π.from-below l fl.below in
        let heard = sym ((round-for k).hears i l fi.below fl.below) ∙ t in
        let said : word_in S k (π.from i) (π.from l) ≡ sent S (π.from l) k
        = bound k (π.from i) (π.from l) pos hk (follower-from i fi) (follower-from l fl) heard in
        (round-for k).word i l fi.below fl.below ∙ ap (word_for n π) said ∙ resent k pos l fl.below
      where
        resent : (k : ℕ) → 0 < k → (l : ℕ) → l < n → word_for n π (sent S (π.from l) k) ≡ sent R l k
        resent zero pos l h = absurd (omega arith)
        resent (suc k) pos l h =
            sym (sent-for S ok unoffered zero-u π T r (π.from l) (π.from-below l h) k) ∙ ap (λ (m : ℕ). sent R m (suc k)) (π.to-from l h)

    -- whether the limit was kept in every round so far: by one rule-follower and the one that it became, as it does not matter whose view is taken
    pub in-out : (k : ℕ) → k ≤ last → all k (λ ρ. kept R (suc ρ)) ≡ all k (λ ρ. kept S (suc ρ))
    unfolding all
    in-out zero hk = refl
    in-out (suc k) hk =
        let before = in-out k (omega arith) in
        and_both _ _ _ _ before (λ t. now t (before ∙ t))
      where
        sooner : (Q : Session) → all k (λ ρ. kept Q (suc ρ)) ≡ true → (m : ℕ) → 0 < m → m < suc k → kept Q m ≡ true
        sooner Q t zero pos h = absurd (omega arith)
        sooner Q t (suc m) pos h = all-at k (λ ρ. kept Q (suc ρ)) t m (omega arith)

        by_one : (i : ℕ) → RuleFollower S i → all k (λ ρ. kept S (suc ρ)) ≡ true → all k (λ ρ. kept R (suc ρ)) ≡ true
            → kept R (suc k) ≡ kept S (suc k)
        by_one i f t t' =
            let flat = lag' in
            sym (demand-3.one-view R (ok' S ok unoffered zero-u π T r) last bound' (common-without R r.no-changes last) (suc k) (omega arith) (omega arith) (sooner R t')
            (π.to i) (follower-to i f))
            ∙ kept_for i f.below (suc k)
            ∙ demand-3.one-view S ok last bound (common-without S unoffered last) (suc k) (omega arith) (omega arith) (sooner S t) i f

        now : all k (λ ρ. kept S (suc ρ)) ≡ true → all k (λ ρ. kept R (suc ρ)) ≡ true → kept R (suc k) ≡ kept S (suc k)
        now t t' =
            ⊎_elim
            (λ (some : any n (follows S) ≡ true).
            let (i, h, f) = any-witness n (follows S) some in
            by_one i (record { below = h; true-to = f }) t t')
            (λ (none : any n (follows S) ≡ false).
            let quiet = any_none n (follows S) none in
            alone R (suc k) (λ j h. follows-for j h ∙ quiet (π.from j) (π.from-below j h)) ∙ sym (alone S (suc k) quiet))
            (which (any n (follows S)))
