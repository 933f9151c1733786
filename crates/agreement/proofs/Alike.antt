-- A change that is offered to all is accepted by all or by none: its verdict rests on the setup and on what is pending.
use Prim.Native.Nat.{ℕ, zero, suc, ◌≤◌, ◌<◌}
use mathlib.Core.Path.{◌≡◌, refl, sym, ap, ap₂, ◌∙◌}
use mathlib.Core.Bool.{Bool, true, false, cond}
use mathlib.Core.Logic.{⊎_elim}
use mathlib.Core.List.{List, [], ◌∷◌}
use native.Mathlib.Omega.{arith}
use native.Mathlib.Nat.{eq-or-lt_of_le, le_refl}
use Rattle.words.specs.Verdict.{is_accepted, and_then}
use Rattle.words.specs.Verdict.{Verdict}
use Rattle.words.proofs.VerdictLaws.{and-then-next}
use Rattle.setup.specs.Check.{setup_verdict}
use Rattle.setup.specs.declared.Setup.{Setup}
use Rattle.changes.specs.Pending.{pending_of}
use Rattle.changes.specs.Frame.{frame_verdict}
use Rattle.changes.specs.declared.Pending.{Pending}
use Rattle.changes.specs.declared.Books.{Books}
use Rattle.presence.specs.Valid.{state_verdict}
use Rattle.presence.specs.Change.{new_verdict, change_verdict, with_pending, change_of}
use Rattle.presence.specs.declared.State.{State}
use Rattle.presence.proofs.ValidLaws.{StateFits, fits-valid}
use Rattle.agreement.specs.Session.{Offer, made, Session, Accepted, RuleFollower, state, Accepts, Common, Bound}
use Rattle.agreement.specs.Demand.{KeptTo}
use Rattle.agreement.specs.Existence.{OfferedAlike, CommonWhereAlike}
use Rattle.agreement.proofs.Offers.{change-fits, change-only}
use Rattle.agreement.proofs.Steps.{held}
use Rattle.agreement.proofs.Shared.{books-eq}
use Rattle.agreement.proofs.Ledger.{all-agree}

-- two valid states with the same setup and the same change pending
record Same (st st' : State) : Type 0 where
  fits : StateFits st
  fits' : StateFits st'
  setup : st.setup ≡ st'.setup
  pending : st.pending ≡ st'.pending

verdict-same : (st st' : State) → Same st st' → (new : Setup) (lead : ℕ) → change_verdict st new lead ≡ change_verdict st' new lead
unfolding change_verdict new_verdict
verdict-same st st' s new lead =
    and-then-next (state_verdict st) _ (fits-valid st s.fits)
    ∙ ap₂ (λ (x : Setup) (p : Pending). and_then (setup_verdict new) (frame_verdict x p new lead)) s.setup s.pending
    ∙ sym (and-then-next (state_verdict st') _ (fits-valid st' s.fits'))

change-pending : (st : State) (new : Setup) (lead : ℕ)
    → (change_of st new lead).state.pending ≡ cond (is_accepted (change_verdict st new lead)) (pending_of new lead) st.pending
unfolding change_of
change-pending st new lead = go (is_accepted (change_verdict st new lead))
  where
    go : (b : Bool) → (cond b (with_pending st (pending_of new lead)) st).pending ≡ cond b (pending_of new lead) st.pending
    go true = refl
    go false = refl

change-same : (st st' : State) (o : Offer) → Same st st' → Same (change_of st o.setup o.lead).state (change_of st' o.setup o.lead).state
change-same st st' o s = record {
  fits = change-fits st o.setup o.lead s.fits;
  fits' = change-fits st' o.setup o.lead s.fits';
  setup = ap (λ (x : State). x.setup) (change-only st o) ∙ s.setup ∙ ap (λ (x : State). x.setup) (sym (change-only st' o));
  pending =
      change-pending st o.setup o.lead
      ∙ ap₂ (λ (v : Verdict) (p : Pending). cond (is_accepted v) (pending_of o.setup o.lead) p) (verdict-same st st' s o.setup o.lead) s.pending
      ∙ sym (change-pending st' o.setup o.lead);
}

made-same : (os : List Offer) (st st' : State) → Same st st' → Same (made os st) (made os st')
unfolding made
made-same [] st st' s = s
made-same (o ∷ os) st st' s = made-same os _ _ (change-same st st' o s)

number_same : (st st' : State) → Same st st' → (new : Setup) (lead : ℕ) → (change_of st new lead).number ≡ (change_of st' new lead).number
unfolding change_of
number_same st st' s new lead = ap (λ (v : Verdict). v.number) (verdict-same st st' s new lead)

module _ (S : Session) (ok : Accepted S) (last : ℕ) (bound : Bound S last) (lim : KeptTo S last) (alike : OfferedAlike S) where
  -- what is common up to round m leaves the same states there
  state-same : (m : ℕ) → m ≤ last → Common S m → (i i' : ℕ) → RuleFollower S i → RuleFollower S i' → Same (state S i m) (state S i' m)
  state-same m h common i i' fi fi' =
      let bound-m : Bound S m = λ k i l p q. bound k i l p (omega arith) in
      let b = books-eq S ok m common i i' fi fi' m (le_refl m)
      (all-agree S ok m bound-m common m (le_refl m) (λ ρ p l. lim ρ p (omega arith))) in
      record {
        fits = (held S ok i fi.below m).fits;
        fits' = (held S ok i' fi'.below m).fits;
        setup = ap (λ (x : Books). x.setup) b;
        pending = ap (λ (x : Books). x.pending) b;
      }

  next : (m : ℕ) → m ≤ last → Common S m → (i i' : ℕ) (o : Offer) → RuleFollower S i → RuleFollower S i' → Accepts S i m o → Accepts S i' m o
  next m h common i i' o fi fi' a = record {
    before = a.before;
    later = a.later;
    offered = alike m i' i fi' fi ∙ a.offered;
    taken =
        sym (number_same _ _ (made-same a.before _ _ (state-same m h common i i' fi fi')) o.setup o.lead) ∙ a.taken;
  }

  upto : (m : ℕ) → m ≤ last → Common S m
  upto zero h k i i' o l fi fi' a = absurd (omega arith)
  upto (suc m) h k i i' o l fi fi' a =
      let q : k ≤ m = omega arith in
      ⊎_elim (λ (e : k ≡ m). rw e (next m (omega arith) (upto m (omega arith)) i i' o fi fi' (rw e at a)))
      (λ (g : k < m). upto m (omega arith) k i i' o g fi fi' a) (eq-or-lt_of_le q)

pub common-where-alike : CommonWhereAlike
common-where-alike S ok last bound lim alike = upto S ok last bound lim alike last (le_refl last)
