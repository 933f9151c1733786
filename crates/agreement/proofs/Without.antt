-- Sessions in which nobody is offered a change: none is accepted, so they are common, and a step is made from what the step before left.
use Prim.Native.Nat.{ℕ, zero, suc, ◌+◌, ◌<◌}
use mathlib.Core.Path.{◌≡◌, refl, sym, ap, ◌∙◌, subst}
use mathlib.Core.List.{List, [], ◌∷◌, ◌++◌}
use native.Mathlib.Omega.{arith}
use lib.ListN.{length, length-append}
use Rattle.rules.specs.declared.Reading.{Reading}
use Rattle.changes.specs.Pending.{nothing, counted_down}
use Rattle.changes.specs.Books.{turned, counted, books_after}
use Rattle.presence.specs.Opening.{fresh}
use Rattle.presence.specs.Step.{after_round}
use Rattle.presence.specs.Change.{with_pending}
use Rattle.presence.specs.declared.State.{State}
use Rattle.agreement.specs.Session.{Offer, made, Session, Accepted, size, answer_at, state, ready, health, Common}
use Rattle.agreement.specs.Life.{Life, opens, steps}
use Rattle.agreement.specs.Existence.{NoChanges}
use Rattle.agreement.proofs.Steps.{reading, seen, ready-is, state-zero, state-suc, life}

-- nothing stands before or after in a list that joins to none
no-offer : (before later : List Offer) (o : Offer) → before ++ (o ∷ later) ≡ [] → ⊥
no-offer before later o e =
    let l : length before + suc (length later) ≡ 0 = sym (length-append before (o ∷ later)) ∙ ap length e in
    absurd (omega arith)

nothing-done : (done os : List Offer) → done ++ os ≡ [] → done ≡ []
nothing-done [] os e = refl
nothing-done (x ∷ done) os e =
    let l : suc (length done) + length os ≡ 0 = sym (length-append (x ∷ done) os) ∙ ap length e in
    absurd (omega arith)

-- a round of a state with nothing pending
still-setup : (st : State) (this : Reading) (views : List ℕ) → (after_round (with_pending st nothing) this views).setup ≡ st.setup
unfolding after_round books_after counted turned nothing
still-setup st this views = refl

still-none : (st : State) (this : Reading) (views : List ℕ) → (after_round (with_pending st nothing) this views).pending ≡ nothing
unfolding after_round books_after counted turned counted_down nothing
still-none st this views = refl

module _ (S : Session) (none : NoChanges S) where
  pub common-without : (last : ℕ) → Common S last
  common-without last k i i' o l fi fi' a = absurd (no-offer a.before a.later o (sym a.offered ∙ none k i))

  pub ready-without : (i k : ℕ) → ready S i k ≡ state S i k
  unfolding made
  ready-without i k = ap (λ (l : List Offer). made l (state S i k)) (none k i)

  -- the next step, and that nothing is ever pending
  module _ (ok : Accepted S) (i : ℕ) (below : i < size S) where
    pub round-without : (k : ℕ) → state S i (suc k) ≡ after_round (state S i k) (reading S i (suc k)) (seen S i (suc k))
    round-without k =
        state-suc S ok i below k
        ∙ ap (λ (st : State). after_round st (reading S i (suc k)) (seen S i (suc k))) (sym (ready-is S i k) ∙ ready-without i k)

    pub plain : (k : ℕ) → ((state S i k).setup ≡ S.setup) × ((state S i k).pending ≡ nothing)
    unfolding fresh
    plain zero = let e = state-zero S ok i below in (ap (λ (st : State). st.setup) e, ap (λ (st : State). st.pending) e)
    plain (suc k) =
        let (a, b) = plain k in
        let e = round-without k ∙ ap (λ (st : State). after_round st (reading S i (suc k)) (seen S i (suc k))) (λ t. with_pending (state S i k) (b t)) in
        (ap (λ (st : State). st.setup) e ∙ still-setup (state S i k) _ _ ∙ a, ap (λ (st : State). st.pending) e ∙ still-none (state S i k) _ _)

  -- the life without refused calls
  pub life-without : (i k : ℕ) → Life S i k [] (state S i k) (health S i k)
  unfolding state health
  life-without i zero = subst (λ (os : List Offer). Life S i 0 os (state S i 0) (health S i 0)) (none 0 i) opens
  life-without i (suc k) =
      subst (λ (os : List Offer). Life S i (suc k) os (state S i (suc k)) (health S i (suc k))) (none (suc k) i)
      (subst (λ (st : State). Life S i (suc k) (S.offers (suc (suc k)) i) (answer_at S i (suc k) st).state (answer_at S i (suc k) st).health)
      (sym (ready-without i k)) (steps (life-without i k)))

  -- what a life holds
  pub held-without : Accepted S → (i : ℕ) → i < size S → (k h : ℕ) (os : List Offer) (st : State) → Life S i k os st h → (st ≡ state S i k) × (h ≡ health S i k)
  unfolding made
  held-without ok i hi k h os st l =
      let r = life S ok i hi k h os st l in
      (r.holds ∙ ap (λ (d : List Offer). made d (state S i k)) (nothing-done r.done os (r.offered ∙ none k i)), r.answered)
