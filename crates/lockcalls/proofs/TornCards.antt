-- Equal adopted views give equal locks; a view that is handed once more changes nothing.
use Prim.Native.Nat.{ℕ, zero, suc, ◌-◌, ◌≤◌, ◌<◌}
use mathlib.Core.Path.{◌≡◌, refl, sym, ap, ◌∙◌}
use mathlib.Core.Bool.{true, false, cond}
use mathlib.Core.Logic.{⊎_elim}
use mathlib.Core.List.{List, [], ◌∷◌, ◌++◌}
use native.Mathlib.Omega.{arith}
use native.Mathlib.Nat.{eq-or-lt_of_le}
use lib.Dec.{eqb}
use lib.ListN.{get_or, length}
use lib.Seq.{ext_get_or}
use borrow.Author.Tests.{eqb-true, lt-ltb}
use Rattle.words.proofs.Truth.{which, cond-true, cond-false}
use Rattle.words.proofs.TableLaws.{updated-at, updated-length}
use Rattle.setup.proofs.SetupLaws.{verdict-fits}
use Rattle.presence.specs.Shown.{shown_view}
use Rattle.agreement.specs.Session.{Session, Accepted, Partitionable, size}
use Rattle.agreement.proofs.Images.{demand-3-c, ok as set-up-accepted}
use Rattle.adoption.specs.Adopts.{is_out, adopted_view}
use Rattle.adoption.proofs.Adoption.{adoption}
use Rattle.adoption.proofs.AdoptedViews.{adopted-views}
use Rattle.scanlock.specs.Axis.{axis, free, present, lost_of}
use Rattle.scanlock.specs.Locks.{EventAnswer, locks, fresh_locks, seen_axes, set_view_of, event_of, joystick_of}
use Rattle.scanlock.specs.ByHistory.{locks_after}
use Rattle.scanlock.specs.SoundLocks.{held_well, SoundLocks}
use Rattle.scanlock.specs.declared.Axis.{Axis}
use Rattle.scanlock.specs.declared.Locks.{Locks}
use Rattle.scanlock.specs.declared.Event.{Event}
use Rattle.scanlock.specs.declared.Event.TheVariants.{View}
use Rattle.scanlock.proofs.SoundLocks.{fits-of}
use Rattle.lockcalls.specs.Cards.{Card, history, told_card, told_images}
use Rattle.lockcalls.specs.TornCards.{CardsAdopt, ImagesAdopt, LeftBehind, OnePartGoesOn}
use Rattle.lockcalls.proofs.Cards.{after-sound, view-taken, same-history, same-images, shown-small}

-- ---- cards that adopt the same views

pub cards-adopt : CardsAdopt
cards-adopt S ok t last k hk faced between i i' fi fi' in_is in-is' card card' =
    let e : told_card between card k ≡ told_card between card' k = same-history between _ _ k
    (λ j l.
    let h : suc j ≤ last = omega arith in
    adopted-views.same-shown S ok t k i i' faced fi fi' in_is in-is' (suc j) _ _ _ _ _ _ l (card.lives (suc j) h) (card'.lives (suc j) h)) in
    record {
      histories = e;
      locks = ap (locks_after (size S)) e;
      joysticks = ap (λ (h : List Event). joystick_of (locks_after (size S) h)) e;
      images = λ image image'. same-images (size S) _ _ image image' e;
    }

pub images-adopt : ImagesAdopt
images-adopt S setup set-up t last k hk faced between i i' fi fi' in_is in-is' card card' lock lock' =
    let e : told_images between card k ≡ told_images between card' k = same-history between _ _ k
    (λ j l.
    let h : suc j ≤ last = omega arith in
    let x = (demand-3-c.kept S setup set-up i fi.below (suc j) _ _ _ (card.lives (suc j) h)).life in
    let x' = (demand-3-c.kept S setup set-up i' fi'.below (suc j) _ _ _ (card'.lives (suc j) h)).life in
    adopted-views.same-shown S (set-up-accepted S setup set-up) t k i i' faced fi fi' in_is in-is' (suc j) _ _ _ _ _ _ l x x') in
    same-images (size S) _ _ lock lock' e

-- ---- a view once more

-- an axis that fits a view loses nothing by it
kept-axis : (view : ℕ) (x : Axis) → held_well view x ≡ true → lost_of view x ≡ x
unfolding held_well lost_of present
kept-axis view x w =
    ⊎_elim
    (λ (z : eqb x.depth 0 ≡ true).
    let d = eqb-true x.depth 0 z in
    let h = eqb-true x.holder 0 (sym (cond-true _ _ z) ∙ w) in
    ap (λ (y : ℕ). cond (present view y) x (axis 0 0 x.moving x.stopping)) h ∙ (λ i. axis (sym h i) (sym d i) x.moving x.stopping))
    (λ (f : eqb x.depth 0 ≡ false). cond-true _ _ (sym (cond-false _ _ f) ∙ w)) (which (eqb x.depth 0))

same-axes : (view : ℕ) (axes : List Axis) → length axes ≡ 8 → ((i : ℕ) → i < 8 → held_well view (get_or axes i free) ≡ true) → seen_axes view axes ≡ axes
unfolding seen_axes
same-axes view axes eight held =
    ext_get_or free _ _ (updated-length 8 (λ j. lost_of view (get_or axes j free)) axes) (λ i h.
    let l : i < 8 = omega (arith, updated-length 8 (λ j. lost_of view (get_or axes j free)) axes) in
    updated-at 8 (λ j. lost_of view (get_or axes j free)) axes i free l (omega arith) ∙ kept-axis view (get_or axes i free) (held i l))

view-again : (st : Locks) (v : ℕ) → SoundLocks st → st.view ≡ v → (event_of st (View v)).locks ≡ st
unfolding event_of set_view_of
view-again st v s e =
    let held : (i : ℕ) → i < 8 → held_well st.view (get_or st.axes i free) ≡ true = λ i h. (fits-of _ _ (s.each i h)).owned in
    ap (λ (x : ℕ). (set_view_of st x).locks) (sym e)
    ∙ ap (λ (x : EventAnswer). x.locks) (cond-true _ _ (lt-ltb _ _ s.view))
    ∙ ap (locks st.n st.view) (same-axes st.view st.axes s.eight held)

-- ---- the parts of a torn cable

module _ (S : Session) (ok : Accepted S) (t : Partitionable S) (i k last : ℕ) (below : i < size S) (hk : k ≤ last) (out : is_out S i (suc k) ≡ true)
    (between : ℕ → List Event) (card : Card S i last) where
  least : 2 ≤ size S
  least = (verdict-fits S.setup ok).least

  most : size S ≤ 16
  most = (verdict-fits S.setup ok).most

  -- what it shows after step k, and after every later one
  before-is : shown_view (card.state k) ≡ adopted_view S i k
  before-is = (adopted-views.shown S ok t i k _ _ _ below (card.lives k hk)).0

  stays : (m : ℕ) → suc k ≤ m → m ≤ last → shown_view (card.state m) ≡ shown_view (card.state k)
  stays m h l =
      let e : suc k - 1 ≡ k = omega arith in
      adopted-views.stays-shown S ok t i (suc k) m _ _ _ below out h (card.lives m l) ∙ ap (adopted_view S i) e ∙ sym before-is

  abbrev held : ℕ → Locks
  held m = locks_after (size S) (told_card between card m)

  sound : (m : ℕ) → SoundLocks (held m)
  sound m = after-sound (size S) least most (told_card between card m)

  -- the view that its locks hold after step k, when no event has come since
  view-held : (j : ℕ) → j ≡ k → between j ≡ [] → (held j).view ≡ shown_view (card.state k)
  unfolding history locks_after fresh_locks
  view-held zero e none =
      let opened = adoption.opened S ok t i below in
      ap (λ (h : List Event). (locks_after (size S) h).view) none
      ∙ sym opened.1 ∙ ap (adopted_view S i) e ∙ sym before-is
  view-held (suc j) e none =
      let l : suc j ≤ last = omega arith in
      ap (λ (h : List Event). (locks_after (size S) (h ++ (View (shown_view (card.state (suc j))) ∷ told_card between card j))).view) none
      ∙ (view-taken (size S) least most (told_card between card j) (shown_view (card.state (suc j))) (shown-small S ok i below (suc j) _ _ _ (card.lives (suc j) l))).view-is
      ∙ ap (λ (m : ℕ). shown_view (card.state m)) e

  held_stays : (m : ℕ) → k ≤ m → m ≤ last → ((j : ℕ) → k ≤ j → j ≤ m → between j ≡ []) → held m ≡ held k
  unfolding history locks_after
  held_stays zero h l none =
      let e : zero ≡ k = omega arith in
      ap held e
  held_stays (suc m) h l none =
      ⊎_elim (λ (e : k ≡ suc m). ap held (sym e))
      (λ (g : k < suc m).
      let low : k ≤ m = omega arith in
      let same = held_stays m low (omega arith) (λ j a b. none j a (omega arith)) in
      let view : (held m).view ≡ shown_view (card.state (suc m)) =
      ap (λ (x : Locks). x.view) same ∙ view-held k refl (none k (omega arith) (omega arith)) ∙ sym (stays (suc m) (omega arith) l) in
      ap (λ (x : List Event). locks_after (size S) (x ++ (View (shown_view (card.state (suc m))) ∷ told_card between card m))) (none (suc m) h (omega arith))
      ∙ view-again (held m) (shown_view (card.state (suc m))) (sound m) view ∙ same)
      (eq-or-lt_of_le h)

  left_behind : ((m : ℕ) → suc k ≤ m → is_out S i m ≡ true) → LeftBehind S between i last k card
  left_behind outs = record {
    is-out = outs;
    view-stays = stays;
    locks-stay = held_stays;
    joystick-stays = λ m h l none. ap joystick_of (held_stays m h l none);
  }

pub one-part-goes-on : OnePartGoesOn
one-part-goes-on S ok t part k i i' last hk torn fi fi' other on between card =
    let outs : (m : ℕ) → suc k ≤ m → is_out S i' m ≡ true = λ m h. (adoption.others-out S ok t part k i i' m torn fi fi' other on h).0 in
    left_behind S ok t i' k last fi'.below hk (outs (suc k) (omega arith)) between card outs
