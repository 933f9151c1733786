-- Changes one after the other: at most one is accepted, and it is what is then pending.
use Prim.Native.Nat.{ℕ, ◌≤◌}
use mathlib.Core.Path.{◌≡◌, refl, sym, ap, ◌∙◌, subst}
use mathlib.Core.Bool.{true, false}
use mathlib.Core.Logic.{◌⊎◌, inl, inr, ⊎_elim, ◌≢◌}
use mathlib.Core.List.{List, [], ◌∷◌, ◌++◌}
use native.Mathlib.Omega.{arith}
use lib.Dec.{eqb}
use borrow.Author.Tests.{eqb-true, eqb-false}
use Rattle.words.proofs.Truth.{which}
use Rattle.setup.specs.declared.Setup.{Setup}
use Rattle.changes.specs.Pending.{pending_of}
use Rattle.presence.specs.Change.{with_pending, change_of}
use Rattle.presence.specs.declared.State.{State}
use Rattle.presence.proofs.ValidLaws.{StateFits}
use Rattle.presence.proofs.FrameLaws.{frame-pass, follows-none, follows-lead}
use Rattle.presence.proofs.StateChangeLaws.{change-refused, change-taken, change-fit}
use Rattle.agreement.specs.Session.{Offer, made}

-- ---- one change

-- it was accepted
pub record Taken (st : State) (new : Setup) (lead : ℕ) : Type 0 where
  pub zero_is : (change_of st new lead).number ≡ 0
  -- none was pending, and it takes effect in the next step at the earliest
  pub free : st.pending.left ≡ 0
  pub least : 1 ≤ lead
  pub now-pending : (change_of st new lead).state ≡ with_pending st (pending_of new lead)

taken_is : (st : State) (new : Setup) (lead : ℕ) → (change_of st new lead).number ≡ 0 → Taken st new lead
taken_is st new lead z =
    let t = change-taken st new lead z in
    let (frame, may) = frame-pass st.setup st.pending new lead t.follows in
    record { zero_is = z; free = follows-none st.pending lead may; least = (follows-lead st.pending lead may).0; now-pending = t.state }

-- a change is accepted, and is then pending; or it is refused, and nothing is changed
pub change-cases : (st : State) (new : Setup) (lead : ℕ)
    → Taken st new lead ⊎ (((change_of st new lead).number ≢ 0) × ((change_of st new lead).state ≡ st))
change-cases st new lead =
    ⊎_elim (λ (t : eqb (change_of st new lead).number 0 ≡ true). inl (taken_is st new lead (eqb-true _ 0 t)))
    (λ (f : eqb (change_of st new lead).number 0 ≡ false).
    let n = eqb-false _ 0 f in
    inr (n, change-refused st new lead n))
    (which (eqb (change_of st new lead).number 0))

pub change-fits : (st : State) (new : Setup) (lead : ℕ) → StateFits st → StateFits (change_of st new lead).state
change-fits st new lead f =
    ⊎_elim (λ yes. change-fit st new lead yes.zero_is) (λ none. subst StateFits (sym none.1) f) (change-cases st new lead)

-- ---- changes one after the other

-- the offer o, accepted after those before it
pub record Found (os : List Offer) (st : State) (o : Offer) : Type 0 where
  pub before : List Offer
  pub later : List Offer
  pub offered : os ≡ before ++ (o ∷ later)
  pub taken : (change_of (made before st) o.setup o.lead).number ≡ 0

pub made-fits : (os : List Offer) (st : State) → StateFits st → StateFits (made os st)
unfolding made
made-fits [] st f = f
made-fits (o ∷ os) st f = made-fits os _ (change-fits st o.setup o.lead f)

-- only what is pending changes
pub change-only : (st : State) (o : Offer) → (change_of st o.setup o.lead).state ≡ with_pending st (change_of st o.setup o.lead).state.pending
change-only st o =
    ⊎_elim
    (λ yes. yes.now-pending ∙ ap (λ (x : State). with_pending st x.pending) (sym yes.now-pending))
    (λ none. none.1 ∙ ap (λ (x : State). with_pending st x.pending) (sym none.1))
    (change-cases st o.setup o.lead)

pub made-only : (os : List Offer) (st : State) → made os st ≡ with_pending st (made os st).pending
unfolding made
made-only [] st = refl
made-only (o ∷ os) st =
    let next = (change_of st o.setup o.lead).state in
    made-only os next ∙ ap (λ (x : State). with_pending x (made os next).pending) (change-only st o)

pub made-join : (done os : List Offer) (st : State) → made (done ++ os) st ≡ made os (made done st)
unfolding made
made-join [] os st = refl
made-join (o ∷ done) os st = made-join done os (change_of st o.setup o.lead).state

-- where one is pending, none is accepted
made-full : (os : List Offer) (st : State) → st.pending.left ≢ 0 → made os st ≡ st
unfolding made
made-full [] st full = refl
made-full (o ∷ os) st full =
    ⊎_elim (λ yes. absurd (full yes.free))
    (λ none. ap (made os) none.1 ∙ made-full os st full)
    (change-cases st o.setup o.lead)

lead-full : (st : State) (o : Offer) → 1 ≤ o.lead → (with_pending st (pending_of o.setup o.lead)).pending.left ≢ 0
unfolding pending_of
lead-full st o h z = absurd (omega arith)

-- an accepted change is what is then pending, whatever is offered before and after it
pub found-made : (os : List Offer) (st : State) (o : Offer) → Found os st o → made os st ≡ with_pending st (pending_of o.setup o.lead)
unfolding made
found-made os st o f = ap (λ (l : List Offer). made l st) f.offered ∙ go f.before st f.taken
  where
    go : (before : List Offer) (d : State) → (change_of (made before d) o.setup o.lead).number ≡ 0
        → made (before ++ (o ∷ f.later)) d ≡ with_pending d (pending_of o.setup o.lead)
    go [] d z =
        let t = taken_is d o.setup o.lead z in
        ap (made f.later) t.now-pending ∙ made-full f.later (with_pending d (pending_of o.setup o.lead)) (lead-full d o t.least)
    go (x ∷ before) d z =
        ⊎_elim
        (λ yes.
        let stay = made-full before (with_pending d (pending_of x.setup x.lead)) (lead-full d x yes.least) in
        let q = ap (made before) yes.now-pending ∙ stay in
        absurd (lead-full d x yes.least
        (ap (λ (k : State). k.pending.left) (sym q)
        ∙ (taken_is (made before (change_of d x.setup x.lead).state) o.setup o.lead z).free)))
        (λ none.
        ap (made (before ++ (o ∷ f.later))) none.1
        ∙ go before d (ap (λ (k : State). (change_of (made before k) o.setup o.lead).number) (sym none.1) ∙ z))
        (change-cases d x.setup x.lead)

-- either no change is accepted and nothing is new, or there is one
pub made-cases : (os : List Offer) (st : State) → (made os st ≡ st) ⊎ ((o : Offer) × Found os st o)
unfolding made
made-cases [] st = inl refl
made-cases (o ∷ os) st =
    ⊎_elim (λ yes. inr (o, record { before = []; later = os; offered = refl; taken = yes.zero_is }))
    (λ none. ⊎_elim (λ same. inl (ap (made os) none.1 ∙ same))
    (λ one. let (p, f) = one in
    inr (
      p,
      record {
        before = o ∷ f.before;
        later = f.later;
        offered = ap (λ (l : List Offer). o ∷ l) f.offered;
        taken = ap (λ (k : State). (change_of (made f.before k) p.setup p.lead).number) none.1 ∙ f.taken;
      },
    )) (made-cases os st))
    (change-cases st o.setup o.lead)

-- ---- lists of offers

-- one more in front, or at the end of what stands before
pub shift : (done : List Offer) (o : Offer) (os : List Offer) → (done ++ (o ∷ [])) ++ os ≡ done ++ (o ∷ os)
shift [] o os = refl
shift (x ∷ done) o os = ap (λ (l : List Offer). x ∷ l) (shift done o os)

pub join-end : (done : List Offer) → done ++ [] ≡ done
join-end [] = refl
join-end (x ∷ done) = ap (λ (l : List Offer). x ∷ l) (join-end done)
