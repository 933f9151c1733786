-- Demand 3, proved.
use Prim.Native.Nat.{ℕ, zero, suc, ◌+◌, ◌-◌, ◌*◌, ◌≤◌, ◌<◌}
use mathlib.Core.Path.{◌≡◌, refl, sym, ap, ◌∙◌}
use mathlib.Core.Bool.{true}
use mathlib.Core.List.{List, [], ◌∷◌, ◌++◌}
use native.Mathlib.Omega.{arith}
use native.Mathlib.Nat.{le_refl, not-suc-le-zero}
use lib.ListN.{length, length-append}
use borrow.Author.Tests.{eqb-false, not-true}
use Rattle.words.specs.Bits.{bit}
use Rattle.changes.specs.declared.Books.{Books}
use Rattle.presence.specs.Step.{books_of}
use Rattle.presence.specs.Change.{with_pending}
use Rattle.presence.specs.Opening.{Opened}
use Rattle.presence.specs.declared.State.{State}
use Rattle.agreement.specs.Session.{Offer, made, Session, Accepted, size, u, follows, RuleFollower, round, state, ready, Common, Bound, kept_by, kept}
use Rattle.agreement.specs.Fault.{limit}
use Rattle.agreement.specs.Life.{Life}
use Rattle.agreement.specs.Demand.{KeptTo, ByRules, Served, Agreement, Demand3}
use Rattle.agreement.proofs.Agreement.{complete, correct}
use Rattle.agreement.proofs.Offers.{made-only, join-end}
use Rattle.agreement.proofs.Steps.{opened, life, life-accepted, life-valid, life-view}
use Rattle.agreement.proofs.Shared.{protocol, follower, rule-follower, health-eq, ready-pending, books-eq, view-eq}
use Rattle.agreement.proofs.Meets.{meets}
use Rattle.agreement.proofs.Ledger.{kept_step, all-agree}

served : (S : Session) → Accepted S → (i : ℕ) → i < size S → Served S i
served S ok i hi = record {
  opened = ap (λ (o : Opened). o.number) (opened S ok i hi);
  stepped = life-accepted S ok i hi;
  valid = life-valid S ok i hi;
  view = life-view S ok i hi;
  by-rules = life S ok i hi;
}

-- ---- a state of a life, by what is still to come

-- nothing stands before a list that is joined to itself
none_before : (done os : List Offer) → done ++ os ≡ os → done ≡ []
none_before [] os e = refl
none_before (x ∷ done) os e =
    let l : length (x ∷ done) + length os ≡ length os = sym (length-append (x ∷ done) os) ∙ ap length e in
    absurd (omega arith)

module _ (S : Session) (i k h : ℕ) (st : State) where
  -- all changes are made, and none
  pub when-done : ByRules S i k [] st h → st ≡ ready S i k
  when-done r = r.holds ∙ ap (λ (d : List Offer). made d (state S i k)) (sym (join-end r.done) ∙ r.offered)

  pub when-fresh : ByRules S i k (S.offers (suc k) i) st h → st ≡ state S i k
  unfolding made
  when-fresh r = r.holds ∙ ap (λ (d : List Offer). made d (state S i k)) (none_before r.done (S.offers (suc k) i) r.offered)

  -- but for what is pending it is the state after the step
  pub when-between : (os : List Offer) → ByRules S i k os st h → st ≡ with_pending (state S i k) st.pending
  when-between os r =
      r.holds ∙ made-only r.done (state S i k) ∙ ap (λ (x : State). with_pending (state S i k) x.pending) (sym r.holds)

-- ---- two lives

module _ (S : Session) (ok : Accepted S) (last : ℕ) (bound : Bound S last) (common : Common S last) where
  books : (k : ℕ) → k ≤ last → KeptTo S k → (i i' : ℕ) → RuleFollower S i → RuleFollower S i' → books_of (state S i k) ≡ books_of (state S i' k)
  books k hk lim i i' fi fi' = books-eq S ok last common i i' fi fi' k hk (all-agree S ok last bound common k hk lim)

  before-step : (k : ℕ) → k < last → KeptTo S k → (i i' h h' : ℕ) (st st' : State) → RuleFollower S i → RuleFollower S i'
      → Life S i k [] st h → Life S i' k [] st' h' → st.pending ≡ st'.pending
  before-step k hk lim i i' h h' st st' fi fi' a a' =
      ap (λ (x : State). x.pending) (when-done S i k h st (life S ok i fi.below k h [] st a))
      ∙ ready-pending S last common k hk i i' fi fi' (ap (λ (b : Books). b.pending) (books k (omega arith) lim i i' fi fi'))
      ∙ ap (λ (x : State). x.pending) (sym (when-done S i' k h' st' (life S ok i' fi'.below k h' [] st' a')))

  agreement : (k : ℕ) → 0 < k → k ≤ last → KeptTo S k → Agreement S k
  agreement zero pos hk lim = absurd (not-suc-le-zero pos)
  agreement (suc k) pos hk lim =
      let R = meets S ok last bound common in
      let K = kept_step S (suc k) lim in
      let ag = all-agree S ok last bound common (suc k) hk lim (suc k) (le_refl (suc k)) in
      let r : suc k - u S - 1 - u S ≡ suc k - 2 * u S - 1 = omega arith in
      record {
        agree = λ i i' h h' os os' st st' fi fi' a a'.
            let x = life S ok i fi.below (suc k) h os st a in
            let x' = life S ok i' fi'.below (suc k) h' os' st' a' in
            let e = when-between S i (suc k) h st os x in
            let e' = when-between S i' (suc k) h' st' os' x' in
            let b = books (suc k) hk lim i i' fi fi' in (
              x.answered ∙ health-eq S ok (suc k) ag i i' fi fi' ∙ sym x'.answered,
              ap (λ (t : State). t.counters) e ∙ ap (λ (t : Books). t.counters) b ∙ ap (λ (t : State). t.counters) (sym e'),
              ap (λ (t : State). t.setup) e ∙ ap (λ (t : Books). t.setup) b ∙ ap (λ (t : State). t.setup) (sym e'),
            );
        after-step = λ i i' h h' st st' fi fi' a a'.
            ap (λ (t : State). t.pending) (when-fresh S i (suc k) h st (life S ok i fi.below (suc k) h _ st a))
            ∙ ap (λ (t : Books). t.pending) (books (suc k) hk lim i i' fi fi')
            ∙ ap (λ (t : State). t.pending) (sym (when-fresh S i' (suc k) h' st' (life S ok i' fi'.below (suc k) h' _ st' a')));
        charged = λ j hj un i h os st fi a.
            ap (λ (x : ℕ). bit x j) (life S ok i fi.below (suc k) h os st a).answered
            ∙ complete (protocol S) last R k hk K j hj (not-true _ (rw r un)) i (follower S i fi);
        cleared = λ j fj here alike i h os st fi a.
            ap (λ (x : ℕ). bit x j) (life S ok i fi.below (suc k) h os st a).answered
            ∙ correct (protocol S) last R k hk K j (follower S j fj) (rw r (λ l fl. here l (rule-follower S l fl)))
            (λ l hl e. rw r (alike l hl (eqb-false l j e))) i (follower S i fi);
      }

  one-view : (ρ : ℕ) → 0 < ρ → ρ + u S - 1 ≤ last → ((r : ℕ) → 0 < r → r < ρ → kept S r ≡ true) → (i : ℕ) → RuleFollower S i → kept_by S i ρ ≡ kept S ρ
  unfolding kept_by
  one-view ρ pos hk lim i fi =
      let all = all-agree S ok last bound common (ρ + u S - 1) hk (λ r p h. lim r p (omega arith)) in
      ap (λ (v : ℕ). limit (size S) (follows S) (bit v) (round S ρ) (round S (ρ - u S - 1))) (view-eq S ok last common (ρ + u S - 1) hk all i fi)

pub demand-3 : Demand3
demand-3 = record { served = served; agreement = agreement; before-step = before-step; one-view = one-view }
