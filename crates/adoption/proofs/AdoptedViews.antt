-- A life holds the views that its last step left; so what is promised of steps is promised of lives.
use Prim.Native.Nat.{ℕ, suc, ◌^◌, ◌<◌}
use mathlib.Core.Path.{◌≡◌, sym, ap, ◌∙◌, subst}
use mathlib.Core.Bool.{true, false}
use mathlib.Core.Logic.{⊎_elim}
use mathlib.Core.List.{List}
use Rattle.words.proofs.Truth.{which, cond-true}
use Rattle.views.specs.declared.Views.{Views}
use Rattle.views.proofs.ViewsLaws.{ViewsFit}
use Rattle.presence.specs.Shown.{shown_view}
use Rattle.presence.specs.declared.State.{State}
use Rattle.agreement.specs.Session.{Offer, Session, Accepted, Partitionable, size, state}
use Rattle.agreement.specs.Life.{Life}
use Rattle.agreement.proofs.Steps.{held, life, life-held}
use Rattle.agreement.proofs.Demand.{when-between}
use Rattle.adoption.specs.Adopts.{is_out, adopted_view}
use Rattle.adoption.specs.AdoptedViews.{AdoptedViews}
use Rattle.adoption.proofs.Adoption.{adoption}

module _ (S : Session) (ok : Accepted S) (set : Partitionable S) (i k h : ℕ) (os : List Offer) (st : State) (below : i < size S) (l : Life S i k os st h) where
  views-held : st.views ≡ (state S i k).views
  views-held = ap (λ (x : State). x.views) (when-between S i k h st os (life S ok i below k h os st l))

  out-held : st.views.out ≡ is_out S i k
  out-held = ap (λ (v : Views). v.out) views-held

  adopted-held : st.views.adopted ≡ adopted_view S i k
  adopted-held = ap (λ (v : Views). v.adopted) views-held

  shown-held : shown_view st ≡ adopted_view S i k
  unfolding shown_view
  shown-held = cond-true st.views.adopted st.counters.view ((life-held S ok i below k h os st l).partitionable-is ∙ set) ∙ adopted-held

  adopted-small : adopted_view S i k < 2 ^ size S
  adopted-small =
      let d = held S ok i below k in
      let f : ViewsFit true (state S i k).setup.n (state S i k).views =
      subst (λ b. ViewsFit b (state S i k).setup.n (state S i k).views) (d.partitionable-is ∙ set) d.fits.views
      in
      subst (λ (n : ℕ). adopted_view S i k < 2 ^ n) d.size_is f.adopted

pub adopted-views : AdoptedViews
adopted-views = record {
  held = views-held;
  shown = λ S ok set i k h os st below l.
      let e = shown-held S ok set i k h os st below l in
      (e, subst (λ (v : ℕ). v < 2 ^ size S) (sym e) (adopted-small S ok set i k h os st below l));
  one-view = λ S ok set k i i' h h' os os' st st' one fi fi' l l' f f'.
      let o = sym (out-held S ok set i (suc k) h os st fi.below l) ∙ f in
      let o' = sym (out-held S ok set i' (suc k) h' os' st' fi'.below l') ∙ f' in
      adopted-held S ok set i (suc k) h os st fi.below l
      ∙ adoption.one-view S ok set (suc k) i i' _ _ one fi fi' (adoption.adopts S ok set i k fi.below o) (adoption.adopts S ok set i' k fi'.below o')
      ∙ sym (adopted-held S ok set i' (suc k) h' os' st' fi'.below l');
  apart = λ S ok set k i i' h h' os os' st st' none fi fi' l l' f.
      let o = sym (out-held S ok set i (suc k) h os st fi.below l) ∙ f in
      out-held S ok set i' (suc k) h' os' st' fi'.below l'
      ∙ ⊎_elim (λ (t : is_out S i' (suc k) ≡ true). t)
      (λ (g : is_out S i' (suc k) ≡ false).
      absurd (adoption.apart S ok set (suc k) i i' _ _ fi fi' none (adoption.adopts S ok set i k fi.below o) (adoption.adopts S ok set i' k fi'.below g)))
      (which (is_out S i' (suc k)));
  one-part = λ S ok set part k i i' h h' os os' st st' torn fi fi' l l' f f'.
      let o = sym (out-held S ok set i (suc k) h os st fi.below l) ∙ f in
      let o' = sym (out-held S ok set i' (suc k) h' os' st' fi'.below l') ∙ f' in
      adoption.one-part S ok set part (suc k) i i' _ _ torn fi fi' (adoption.adopts S ok set i k fi.below o) (adoption.adopts S ok set i' k fi'.below o');
  same-shown = λ S ok set last i i' one fi fi' f f' k h h' os os' st st' le l l'.
      shown-held S ok set i k h os st fi.below l ∙ adoption.same-views S ok set last i i' one fi fi' f f' k le
      ∙ sym (shown-held S ok set i' k h' os' st' fi'.below l');
  stays-shown = λ S ok set i k m h os st below t le l. shown-held S ok set i m h os st below l ∙ (adoption.stays S ok set i k m below t le).1;
}
