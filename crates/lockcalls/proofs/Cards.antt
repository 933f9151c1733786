-- A card's view is taken; equal views give equal histories, and equal histories equal locks.
use Prim.Native.Nat.{ℕ, zero, suc, ◌-◌, ◌^◌, ◌≤◌, ◌<◌}
use mathlib.Core.Path.{◌≡◌, refl, sym, ap, ◌∙◌, subst}
use mathlib.Core.Bool.{true, false}
use mathlib.Core.Logic.{⊎_elim}
use mathlib.Core.List.{List, [], ◌∷◌, ◌++◌}
use native.Mathlib.Omega.{arith}
use native.Mathlib.Nat.{zero-lt-suc, lt-suc_self}
use lib.Dec.{eqb, ltb}
use borrow.Author.Tests.{lt-ltb, eq-eqb, eqb-true}
use Rattle.words.proofs.Truth.{which, clash, cond-true, cond-false}
use Rattle.setup.proofs.SetupLaws.{verdict-fits}
use Rattle.accounts.specs.declared.Counters.{Counters}
use Rattle.presence.specs.Shown.{shown_view}
use Rattle.presence.specs.declared.State.{State}
use Rattle.agreement.specs.Session.{Offer, Session, Accepted, size}
use Rattle.agreement.specs.Life.{Life}
use Rattle.agreement.specs.Demand.{KeptTo}
use Rattle.agreement.proofs.Demand.{demand-3}
use Rattle.agreement.proofs.Steps.{life-held}
use Rattle.agreement.proofs.Images.{demand-3-c, ok as set-up-accepted}
use Rattle.adoption.proofs.AdoptedViews.{adopted-views}
use Rattle.scanlock.specs.Axis.{present}
use Rattle.scanlock.specs.Locks.{axis_at, joystick_of}
use Rattle.scanlock.specs.History.{latest_view, number, accepted_events}
use Rattle.scanlock.specs.ByHistory.{locks_after}
use Rattle.scanlock.specs.SoundLocks.{held_well, SoundLocks}
use Rattle.scanlock.specs.declared.Axis.{Axis}
use Rattle.scanlock.specs.declared.Event.{Event}
use Rattle.scanlock.specs.declared.Event.TheVariants.{View}
use Rattle.scanlock.proofs.ByHistory.{by-history}
use Rattle.scanlock.proofs.SoundLocks.{fits-of, fresh-sound, event-sound}
use Rattle.lockcalls.specs.LockImage.{lock_image}
use Rattle.lockcalls.specs.Callers.{HeldLock}
use Rattle.lockcalls.specs.Cards.{ViewTaken, ViewsTaken, history, told_card, CardsAgree, told_images, ImagesAgree}
use Rattle.lockcalls.proofs.Callers.{images-by-history}

-- ---- a card's own view

pub after-sound : (n : ℕ) → 2 ≤ n → n ≤ 16 → (h : List Event) → SoundLocks (locks_after n h)
unfolding locks_after
after-sound n least most [] = fresh-sound n least most
after-sound n least most (e ∷ h) = event-sound (locks_after n h) e (after-sound n least most h)

-- who holds an axis is in the view
holder-present : (view : ℕ) (x : Axis) → held_well view x ≡ true → present view x.holder ≡ false → x.depth ≡ 0
unfolding held_well
holder-present view x t f =
    ⊎_elim (λ (z : eqb x.depth 0 ≡ true). eqb-true x.depth 0 z)
    (λ (z : eqb x.depth 0 ≡ false). clash (present view x.holder) (sym (cond-false _ _ z) ∙ t) f) (which (eqb x.depth 0))

pub view-taken : (n : ℕ) → 2 ≤ n → n ≤ 16 → (h : List Event) (view : ℕ) → view < 2 ^ n → ViewTaken n h view
unfolding number latest_view accepted_events
view-taken n least most h view l =
    let t : ltb view (2 ^ n) ≡ true = lt-ltb _ _ l in
    let z : number n (accepted_events n h) (View view) ≡ 0 = cond-true 0 19 t in
    let v : (locks_after n (View view ∷ h)).view ≡ view =
    (by-history n (View view ∷ h)).view ∙ ap (latest_view n) (cond-true _ _ (eq-eqb _ 0 z)) in
    let s = after-sound n least most (View view ∷ h) in
    record {
      accepted = (by-history n h).answers (View view) ∙ z;
      view-is = v;
      freed = λ a first last f.
          let i : a - 1 < 8 = omega arith in
          holder-present view (axis_at (locks_after n (View view ∷ h)) a)
          (subst (λ (w : ℕ). held_well w (axis_at (locks_after n (View view ∷ h)) a) ≡ true) v (fits-of _ _ (s.each (a - 1) i)).owned) f;
    }

-- where the setup is not partitionable, what is shown is the local view
pub shown-local : (S : Session) → Accepted S → S.setup.partitionable ≡ false → (i : ℕ) → i < size S → (k health : ℕ) (os : List Offer) (st : State)
    → Life S i k os st health → shown_view st ≡ st.counters.view
unfolding shown_view
shown-local S ok f i hi k health os st life = cond-false _ _ ((life-held S ok i hi k health os st life).partitionable-is ∙ f)

-- what is shown names no module above N
pub shown-small : (S : Session) → Accepted S → (i : ℕ) → i < size S → (k health : ℕ) (os : List Offer) (st : State) → Life S i k os st health
    → shown_view st < 2 ^ size S
shown-small S ok i hi k health os st life =
    ⊎_elim (λ (t : S.setup.partitionable ≡ true). (adopted-views.shown S ok t i k health os st hi life).1)
    (λ (f : S.setup.partitionable ≡ false).
    subst (λ (v : ℕ). v < 2 ^ size S) (sym (shown-local S ok f i hi k health os st life)) ((demand-3.served S ok i hi).view k health os st life))
    (which S.setup.partitionable)

pub views-taken : ViewsTaken
views-taken S ok i hi k health os st life h =
    let axis_fits = verdict-fits S.setup ok in
    view-taken (size S) axis_fits.least axis_fits.most h (shown_view st) (shown-small S ok i hi k health os st life)

-- ---- the cards together

-- what is handed up to round k goes by the views of rounds 1 to k
pub same-history : (between : ℕ → List Event) (v v' : ℕ → ℕ) (k : ℕ) → ((j : ℕ) → j < k → v (suc j) ≡ v' (suc j))
    → history between v k ≡ history between v' k
unfolding history
same-history between v v' zero h = refl
same-history between v v' (suc k) h =
    ap (λ (x : ℕ). between (suc k) ++ (View x ∷ history between v k)) (h k (lt-suc_self k))
    ∙ ap (λ (t : List Event). between (suc k) ++ (View (v' (suc k)) ∷ t)) (same-history between v v' k (λ j l. h j (omega arith)))

-- the limit was kept for every round before, too
sooner : (S : Session) (k j : ℕ) → j < k → KeptTo S k → KeptTo S (suc j)
sooner S k j l lim ρ pos h = lim ρ pos (omega arith)

-- equal histories, equal images
pub same-images : (n : ℕ) (h h' : List Event) (image image' : List ℕ) → h ≡ h' → HeldLock n h image → HeldLock n h' image' → image ≡ image'
same-images n h h' image image' e a a' =
    (images-by-history n h image a).one_form ∙ ap (λ (t : List Event). lock_image (locks_after n t)) e
    ∙ sym (images-by-history n h' image' a').one_form

pub cards-agree : CardsAgree
cards-agree S ok plain last bound common k hk lim between i i' fi fi' card card' =
    let e : told_card between card k ≡ told_card between card' k = same-history between _ _ k
    (λ j l.
    let h : suc j ≤ last = omega arith in
    let a = demand-3.agreement S ok last bound common (suc j) (zero-lt-suc j) h (sooner S k j l lim) in
    shown-local S ok plain i fi.below (suc j) _ _ _ (card.lives (suc j) h)
    ∙ ap (λ (c : Counters). c.view) (a.agree i i' _ _ _ _ _ _ fi fi' (card.lives (suc j) h) (card'.lives (suc j) h)).1
    ∙ sym (shown-local S ok plain i' fi'.below (suc j) _ _ _ (card'.lives (suc j) h))) in
    record {
      histories = e;
      locks = ap (locks_after (size S)) e;
      joysticks = ap (λ (t : List Event). joystick_of (locks_after (size S) t)) e;
      images = λ image image'. same-images (size S) _ _ image image' e;
    }

pub images-agree : ImagesAgree
images-agree S setup set-up plain last bound common k hk lim between i i' fi fi' card card' lock lock' =
    let e : told_images between card k ≡ told_images between card' k = same-history between _ _ k
    (λ j l.
    let h : suc j ≤ last = omega arith in
    let x = (demand-3-c.kept S setup set-up i fi.below (suc j) _ _ _ (card.lives (suc j) h)).life in
    let x' = (demand-3-c.kept S setup set-up i' fi'.below (suc j) _ _ _ (card'.lives (suc j) h)).life in
    shown-local S (set-up-accepted S setup set-up) plain i fi.below (suc j) _ _ _ x
    ∙ ap (λ (c : Counters). c.view)
    ((demand-3-c.agreement S setup set-up last bound common (suc j) (zero-lt-suc j) h (sooner S k j l lim)).agree i i' _ _ _ _ _ _ fi fi'
    (card.lives (suc j) h) (card'.lives (suc j) h)).1
    ∙ sym (shown-local S (set-up-accepted S setup set-up) plain i' fi'.below (suc j) _ _ _ x')) in
    same-images (size S) _ _ lock lock' e
