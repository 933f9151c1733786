-- Sessions renumbered, proved.
use Prim.Native.Nat.{ℕ, suc, ◌<◌}
use mathlib.Core.Path.{◌≡◌, refl, sym, ap, ap₂, ◌∙◌, subst}
use mathlib.Core.Bool.{Bool, true, false, cond}
use mathlib.Core.List.{List}
use Rattle.words.specs.Bits.{bit}
use Rattle.setup.specs.declared.Setup.{Setup}
use Rattle.presence.specs.Shown.{shown_view}
use Rattle.presence.specs.Step.{accepted_step}
use Rattle.presence.specs.declared.State.{State}
use Rattle.presence.specs.Step.{Stepped}
use Rattle.agreement.specs.Session.{Offer, Session, Accepted, size, u, answer_at}
use Rattle.agreement.specs.Life.{Life}
use Rattle.agreement.specs.Existence.{NoChanges}
use Rattle.agreement.proofs.Steps.{causes, taken, life-held}
use Rattle.agreement.proofs.Without.{held-without}
use Rattle.renumbering.specs.Renumbering.{Renumbering, vector_for, array_for, word_for}
use Rattle.renumbering.specs.States.{state_for}
use Rattle.renumbering.specs.Sessions.{session_for, Renumbered}
use Rattle.renumbering.specs.SameSession.{SameSession, RenumbersSessions}
use Rattle.renumbering.proofs.VectorForLaws.{vector-bit}
use Rattle.renumbering.proofs.SessionForLaws.{S', ok', hears-view-for, cause-at, causes-for, state-for, health-for, handed-for, sent-for, view-handed-for, view-sent-for}
use Rattle.renumbering.proofs.SessionLimitLaws.{lag', kept_for, bound-views', bound', in-out}

-- the causes that a step answers are those of its read
answer-causes : (S : Session) (ok : Accepted S) (i k h : ℕ) (os : List Offer) (st : State) → i < size S → Life S i k os st h
    → (answer_at S i (suc k) st).causes ≡ causes S i (suc k)
unfolding accepted_step
answer-causes S ok i k h os st below l = ap (λ (t : Stepped). t.causes) (taken S ok i below (suc k) st (life-held S ok i below k h os st l))

-- the view that a renumbered state shows
pub shown-for : (n : ℕ) (π : Renumbering n) (st : State) → shown_view (state_for n π st) ≡ vector_for n π (shown_view st)
unfolding shown_view
shown-for n π st = go st.setup.partitionable
  where
    go : (b : Bool) → cond b (vector_for n π st.views.adopted) (vector_for n π st.counters.view) ≡ vector_for n π (cond b st.views.adopted st.counters.view)
    go true = refl
    go false = refl

module _ (S : Session) (ok : Accepted S) (unoffered : NoChanges S) (z : u S ≡ 0) (π : Renumbering (size S)) (T : Session) (r : Renumbered S π T) where
  abbrev R : Session
  R = S' S ok unoffered z π T r

  same-held : (i k h h' : ℕ) (os os' : List Offer) (st st' : State) → i < size S → Life S i k os st h → Life R (π.to i) k os' st' h'
      → (st' ≡ state_for (size S) π st) × (h' ≡ vector_for (size S) π h)
  same-held i k h h' os os' st st' below l l' =
      let (p, q) = held-without S unoffered ok i below k h os st l in
      let (p', q') = held-without R r.no-changes (ok' S ok unoffered z π T r) (π.to i) (π.to_below i below) k h' os' st' l' in (
        p' ∙ state-for S ok unoffered z π T r i below k ∙ ap (state_for (size S) π) (sym p),
        q' ∙ health-for S ok unoffered z π T r i below k ∙ ap (vector_for (size S) π) (sym q),
      )

  as-set-up : SameSession S π R
  as-set-up = record {
    accepted = ok' S ok unoffered z π T r;
    lag = lag' S ok unoffered z π T r;
    bound = bound' S ok unoffered z π T r;
    bound-views = bound-views' S ok unoffered z π T r;
    same = same-held;
    shown = λ i k h h' os os' st st' below l l'.
        let e = (same-held i k h h' os os' st st' below l l').0 in
        (ap shown_view e ∙ shown-for (size S) π st, ap (λ (x : State). x.views.out) e);
    cause = cause-at S ok unoffered z π T r;
    causes = λ i k h h' os os' st st' below l l'.
        answer-causes R (ok' S ok unoffered z π T r) (π.to i) k h' os' st' (π.to_below i below) l'
        ∙ causes-for S ok unoffered z π T r i below (suc k)
        ∙ ap (array_for (size S) π) (sym (answer-causes S ok i k h os st below l));
    hears-view = hears-view-for S ok unoffered z π T r;
    handed = λ i k below. handed-for S ok unoffered z π T r i below k;
    sent = λ i k below. sent-for S ok unoffered z π T r i below k;
    view-handed = λ i k below. view-handed-for S ok unoffered z π T r i below k;
    view-sent = λ i k below. view-sent-for S ok unoffered z π T r i below k;
    limit = λ i ρ below. kept_for S ok unoffered z π T r i below ρ;
    in-out = in-out S ok unoffered z π T r;
  }

  same : SameSession S π T
  same =
      subst (λ (s : Setup). SameSession S π (record { setup = s; cast = T.cast; controller = T.controller; word = T.word; view = T.view; offers = T.offers }))
      (sym r.setup) as-set-up

has : (S : Session) → NoChanges S → (π : Renumbering (size S)) → Renumbered S π (session_for S π)
unfolding session_for
has S unoffered π = record {
  setup = refl;
  cast = λ j h. vector-bit (size S) π S.cast (π.to j) (π.to_below j h) ∙ ap (bit S.cast) (π.from-to j h);
  controller = λ k i j hi hj. ap₂ (S.controller (suc k)) (π.from-to i hi) (π.from-to j hj);
  word = λ k i j hi hj. ap₂ (λ (x y : ℕ). word_for (size S) π (S.word (suc k) x y)) (π.from-to i hi) (π.from-to j hj);
  view = λ p k i j hi hj. ap₂ (λ (x y : ℕ). word_for (size S) π (S.view (suc k) x y)) (π.from-to i hi) (π.from-to j hj);
  no-changes = λ k i. refl;
}

pub renumbers-sessions : RenumbersSessions
renumbers-sessions = record { same = same; has = has }
