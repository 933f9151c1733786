-- The state after a history shows what the history leaves: by induction, event by event.
use Prim.Native.Nat.{ℕ, zero, suc, ◌+◌, ◌-◌, ◌^◌, ◌≤◌, ◌<◌}
use mathlib.Core.Path.{◌≡◌, refl, sym, ap, ap₂, ◌∙◌, subst}
use mathlib.Core.Bool.{Bool, true, false, cond, not, ◌&&◌, ◌||◌}
use mathlib.Core.Logic.{⊎_elim}
use mathlib.Core.List.{List, [], ◌∷◌}
use native.Mathlib.Omega.{arith}
use borrow.Author.Tests.{eqb-true, eqb-false, leb-true}
use lib.Dec.{eqb, leb, ltb}
use lib.ListN.{get_or, set, length, length-set, length-replicate, get_or-replicate}
use lib.Seq.{get_or-set_same, get_or-set_other}
use Rattle.words.specs.Count.{all}
use Rattle.words.proofs.Truth.{which, cond-true, cond-false, and_l, and_r}
use Rattle.words.proofs.TableLaws.{updated-at, updated-length}
use Rattle.scanlock.specs.Axis.{axis, free, axis_answer, present, on_axis, barred, begun_of, ended_of, started_of, aborted_of, finished_of, stopped_of, deeper, shallower, moved, lost_of, idle_axis}
use Rattle.scanlock.specs.Locks.{EventAnswer, locks, event_answer, fresh_locks, axis_at, with_axis, admits, refused_of, put_of, settled_of, seen_axes, set_view_of, begin_of, end_of, start_move_of, abort_of, finished_by, stopped_by, event_of, joystick_of}
use Rattle.scanlock.specs.History.{depth, latest_view, named, taken, number, accepted_events, live}
use Rattle.scanlock.specs.ByHistory.{locks_after, ByHistory}
use Rattle.scanlock.specs.declared.Axis.{Axis}
use Rattle.scanlock.specs.declared.Locks.{Locks}
use Rattle.scanlock.specs.declared.Event.{Event}
use Rattle.scanlock.specs.declared.Event.TheVariants.{View, Begin, End, Start, Abort, Finished, Stopped}
use Rattle.scanlock.proofs.LockEventLaws.{on-axis, admitted}
use Rattle.scanlock.proofs.AxisHistory.{Shows, Same, alike-shows, shows-free, shows-depth, shows-holder, shows-view, shows-begin, shows-end, shows-start, shows-abort, shows-finished, shows-stopped, other-begin, other-end, other-start, other-abort, other-finished, other-stopped}

-- the locks st after the accepted events t
record Kept (n : ℕ) (t : List Event) (st : Locks) : Type 0 where
  size : st.n ≡ n
  view : st.view ≡ latest_view n t
  eight : length st.axes ≡ 8
  each : (a : ℕ) → 1 ≤ a → a ≤ 8 → Shows a t (axis_at st a)

-- one event more: its answer, and what it leaves
record Next (n : ℕ) (t : List Event) (st : Locks) (e : Event) : Type 0 where
  answers : (event_of st e).number ≡ number n t e
  kept : Kept n (cond (eqb (number n t e) 0) (e ∷ t) t) (event_of st e).locks

module _ (n : ℕ) (t : List Event) (st : Locks) (k : Kept n t st) (e : Event) where
  -- a refused event
  refused : (m : ℕ) → event_of st e ≡ refused_of st m → number n t e ≡ m → eqb m 0 ≡ false → Next n t st e
  refused m r h z = record {
    answers = ap (λ (x : EventAnswer). x.number) r ∙ sym h;
    kept =
        subst (λ (l : List Event). Kept n l (event_of st e).locks) (sym (cond-false (e ∷ t) t (ap (λ (x : ℕ). eqb x 0) h ∙ z)))
        (subst (λ (x : Locks). Kept n t x) (sym (ap (λ (x : EventAnswer). x.locks) r)) k);
  }

  -- an accepted one
  done : (s : Locks) → event_of st e ≡ event_answer 0 s → number n t e ≡ 0 → Kept n (e ∷ t) s → Next n t st e
  done s r h g = record {
    answers = ap (λ (x : EventAnswer). x.number) r ∙ sym h;
    kept =
        subst (λ (l : List Event). Kept n l (event_of st e).locks) (sym (cond-true (e ∷ t) t (ap (λ (x : ℕ). eqb x 0) h)))
        (subst (λ (x : Locks). Kept n (e ∷ t) x) (sym (ap (λ (x : EventAnswer). x.locks) r)) g);
  }

  -- an accepted one that changes axis b alone
  module _ (b : ℕ) (low : 1 ≤ b) (high : b ≤ 8) (same_view : latest_view n (e ∷ t) ≡ latest_view n t) where
    kept_put : (y : Axis) → Shows b (e ∷ t) y → ((a : ℕ) → eqb b a ≡ false → Same a t e) → Kept n (e ∷ t) (with_axis st b y)
    kept_put y here others = record {
      size = k.size;
      view = k.view ∙ sym same_view;
      eight = length-set st.axes (b - 1) y ∙ k.eight;
      each = λ a l h.
          ⊎_elim
          (λ (p : eqb b a ≡ true).
          let q = eqb-true b a p in
          subst (λ (c : ℕ). Shows c (e ∷ t) (get_or (set st.axes (b - 1) y) (c - 1) free)) q
          (subst (λ (x : Axis). Shows b (e ∷ t) x) (sym (get_or-set_same st.axes (b - 1) y free (room b low high))) here))
          (λ (p : eqb b a ≡ false).
          let q = eqb-false b a p in
          subst (λ (x : Axis). Shows a (e ∷ t) x) (sym (get_or-set_other st.axes (b - 1) (a - 1) y free (apart a l q)))
          (alike-shows a (e ∷ t) t (axis_at st a) (others a p) (k.each a l h)))
          (which (eqb b a));
    }
      where
        room : (c : ℕ) → 1 ≤ c → c ≤ 8 → c - 1 < length st.axes
        room c l h = rw k.eight (omega arith)

        apart : (a : ℕ) → 1 ≤ a → (b ≡ a → ⊥) → a - 1 ≡ b - 1 → ⊥
        apart a l q z = q (omega arith)

    put : (y : Axis) → event_of st e ≡ put_of st b y → number n t e ≡ 0 → Shows b (e ∷ t) y → ((a : ℕ) → eqb b a ≡ false → Same a t e)
        → Next n t st e
    put y r h here others = done (with_axis st b y) r h (kept_put y here others)

-- ---- the tests by the state are those by the history

module _ (n : ℕ) (t : List Event) (st : Locks) (k : Kept n t st) where
  same-named : (by b : ℕ) → named n t by b ≡ admits st by b
  unfolding named admits
  same-named by b = rw (k.size, k.view) refl

  same_taken : (by b : ℕ) → 1 ≤ b → b ≤ 8 → taken n t by b ≡ barred (axis_at st b) by
  unfolding taken barred
  same_taken by b l h =
      let s = k.each b l h in
      ap₂ (λ (m : ℕ) (q : Bool). (not (eqb m 0) && not (eqb m by)) || q) (shows-holder b t (axis_at st b) s) (sym s.stop)

  same-depth : (b : ℕ) → 1 ≤ b → b ≤ 8 → depth b t ≡ (axis_at st b).depth
  same-depth b l h = shows-depth b t (axis_at st b) (k.each b l h)

  -- a module that the scan lock admits has a number of 1 or more
  some-module : (by b : ℕ) → admits st by b ≡ true → 1 ≤ by
  unfolding admits present
  some-module by b e = leb-true 1 by (and_l (leb 1 by) _ (and_r (on_axis b && leb by st.n) _ e))

  -- a begin, an end or a start: 19, 20, then 21 by a test of its own, and the axis after it
  module _ (e : Event) (by b : ℕ) (test test' : Bool) (y : Axis) (same_view : latest_view n (e ∷ t) ≡ latest_view n t) where
    asked : event_of st e
        ≡ cond (admits st by b)
        (settled_of st b (cond (barred (axis_at st b) by) (axis_answer 20 (axis_at st b)) (cond test (axis_answer 21 (axis_at st b)) (axis_answer 0 y))))
        (refused_of st 19)
        → number n t e ≡ cond (named n t by b) (cond (taken n t by b) 20 (cond test' 21 0)) 19
        → (1 ≤ b → b ≤ 8 → test' ≡ test)
        → (1 ≤ b → b ≤ 8 → 1 ≤ by → barred (axis_at st b) by ≡ false → test ≡ false → Shows b (e ∷ t) y)
        → ((a : ℕ) → eqb b a ≡ false → Same a t e) → Next n t st e
    unfolding settled_of
    asked r h tests here others =
        ⊎_elim
        (λ (p : admits st by b ≡ true).
        let (l, u) = admitted st by b p in
        let p' = same-named by b ∙ p in
        ⊎_elim
        (λ (q : barred (axis_at st b) by ≡ true).
        refused n t st k e 20 (r ∙ rw (p, q) refl) (h ∙ rw (p', same_taken by b l u ∙ q) refl) refl)
        (λ (q : barred (axis_at st b) by ≡ false).
        let q' = same_taken by b l u ∙ q in
        ⊎_elim
        (λ (w : test ≡ true). refused n t st k e 21 (r ∙ rw (p, q, w) refl) (h ∙ rw (p', q', tests l u ∙ w) refl) refl)
        (λ (w : test ≡ false).
        put n t st k e b l u same_view y (r ∙ rw (p, q, w) refl) (h ∙ rw (p', q', tests l u ∙ w) refl)
        (here l u (some-module by b p) q w) others)
        (which test))
        (which (barred (axis_at st b) by)))
        (λ (p : admits st by b ≡ false). refused n t st k e 19 (r ∙ cond-false _ _ p) (h ∙ cond-false _ _ (same-named by b ∙ p)) refl)
        (which (admits st by b))

  next-begin : (by b : ℕ) → Next n t st (Begin by b)
  unfolding event_of begin_of begun_of number latest_view
  next-begin by b =
      let x = axis_at st b in
      asked (Begin by b) by b (leb 8 x.depth) (leb 8 (depth b t)) (deeper x by) refl refl refl
      (λ l u. ap (λ (d : ℕ). leb 8 d) (same-depth b l u))
      (λ l u m q w. shows-begin b t x by m q (k.each b l u))
      (λ a f. other-begin a b t f by)

  next-end : (by b : ℕ) → Next n t st (End by b)
  unfolding event_of end_of ended_of number latest_view
  next-end by b =
      let x = axis_at st b in
      asked (End by b) by b (eqb x.depth 0) (eqb (depth b t) 0) (shallower x) refl refl refl
      (λ l u. ap (λ (d : ℕ). eqb d 0) (same-depth b l u))
      (λ l u m q w. shows-end b t x by (eqb-false x.depth 0 w) (k.each b l u))
      (λ a f. other-end a b t f by)

  next_start : (by b : ℕ) → Next n t st (Start by b)
  unfolding event_of start_move_of started_of number latest_view
  next_start by b =
      let x = axis_at st b in
      asked (Start by b) by b (eqb x.depth 0) (eqb (depth b t) 0) (moved x) refl refl refl
      (λ l u. ap (λ (d : ℕ). eqb d 0) (same-depth b l u))
      (λ l u m q w. shows-start b t x (k.each b l u) by)
      (λ a f. other-start a b t f by)

  next-abort : (by b : ℕ) → Next n t st (Abort by b)
  unfolding event_of abort_of number latest_view
  next-abort by b =
      ⊎_elim
      (λ (p : admits st by b ≡ true).
      let (l, u) = admitted st by b p in
      put n t st k (Abort by b) b l u refl (aborted_of (axis_at st b)) (cond-true _ _ p) (cond-true _ _ (same-named by b ∙ p))
      (shows-abort b t (axis_at st b) (k.each b l u) by) (λ a f. other-abort a b t f by))
      (λ (p : admits st by b ≡ false). refused n t st k (Abort by b) 19 (cond-false _ _ p) (cond-false _ _ (same-named by b ∙ p)) refl)
      (which (admits st by b))

  -- a report
  told : (e : Event) (b : ℕ) (y : Axis) → latest_view n (e ∷ t) ≡ latest_view n t → event_of st e ≡ cond (on_axis b) (put_of st b y) (refused_of st 19)
      → number n t e ≡ cond (on_axis b) 0 19 → (1 ≤ b → b ≤ 8 → Shows b (e ∷ t) y) → ((a : ℕ) → eqb b a ≡ false → Same a t e) → Next n t st e
  told e b y v r h here others =
      ⊎_elim
      (λ (p : on_axis b ≡ true).
      let (l, u) = on-axis b p in
      put n t st k e b l u v y (r ∙ cond-true _ _ p) (h ∙ cond-true _ _ p) (here l u) others)
      (λ (p : on_axis b ≡ false). refused n t st k e 19 (r ∙ cond-false _ _ p) (h ∙ cond-false _ _ p) refl)
      (which (on_axis b))

  next-finished : (b : ℕ) → Next n t st (Finished b)
  unfolding event_of finished_by number latest_view
  next-finished b =
      told (Finished b) b (finished_of (axis_at st b)) refl refl refl (λ l u. shows-finished b t (axis_at st b) (k.each b l u))
      (λ a f. other-finished a b t f)

  next-stopped : (b : ℕ) → Next n t st (Stopped b)
  unfolding event_of stopped_by number latest_view
  next-stopped b =
      told (Stopped b) b (stopped_of (axis_at st b)) refl refl refl (λ l u. shows-stopped b t (axis_at st b) (k.each b l u))
      (λ a f. other-stopped a b t f)

  -- a view
  seen : (view : ℕ) → Kept n (View view ∷ t) (locks st.n view (seen_axes view st.axes))
  unfolding seen_axes latest_view
  seen view = record {
    size = k.size;
    view = refl;
    eight = updated-length 8 _ st.axes ∙ k.eight;
    each = λ a l h.
        let i : a - 1 < 8 = omega arith in
        let m : 8 ≤ length st.axes = rw k.eight (omega arith) in
        subst (λ (x : Axis). Shows a (View view ∷ t) x)
        (sym (updated-at 8 (λ j. lost_of view (get_or st.axes j free)) st.axes (a - 1) free i m))
        (shows-view a t view (axis_at st a) (k.each a l h));
  }

  next-view : (view : ℕ) → Next n t st (View view)
  unfolding event_of set_view_of number
  next-view view =
      ⊎_elim
      (λ (p : ltb view (2 ^ n) ≡ true).
      done n t st k (View view) (locks st.n view (seen_axes view st.axes))
      (cond-true _ _ (ap (λ (m : ℕ). ltb view (2 ^ m)) k.size ∙ p)) (cond-true _ _ p) (seen view))
      (λ (p : ltb view (2 ^ n) ≡ false).
      refused n t st k (View view) 19 (cond-false _ _ (ap (λ (m : ℕ). ltb view (2 ^ m)) k.size ∙ p)) (cond-false _ _ p) refl)
      (which (ltb view (2 ^ n)))

  next : (e : Event) → Next n t st e
  next (View view) = next-view view
  next (Begin by b) = next-begin by b
  next (End by b) = next-end by b
  next (Start by b) = next_start by b
  next (Abort by b) = next-abort by b
  next (Finished b) = next-finished b
  next (Stopped b) = next-stopped b

-- ---- the joystick, by the axes

all-ext : (m : ℕ) (p q : ℕ → Bool) → ((i : ℕ) → i < m → p i ≡ q i) → all m p ≡ all m q
unfolding all
all-ext zero p q h = refl
all-ext (suc m) p q h = rw (all-ext m p q (λ i l. h i (omega arith)), h m (omega arith)) refl

-- axes that show what a history leaves make the joystick as live as the history does
live-is : (n : ℕ) (h : List Event) (axes : List Axis)
    → ((a : ℕ) → 1 ≤ a → a ≤ 8 → Shows a (accepted_events n h) (get_or axes (a - 1) free))
    → all 8 (λ i. idle_axis (get_or axes i free)) ≡ live n h
unfolding live idle_axis
live-is n h axes shown =
    all-ext 8 _ _
    (λ i l.
    let z : i + 1 - 1 ≡ i = omega arith in
    let s = rw z at (shown (i + 1) (omega arith) (omega arith)) in
    ap₂ (λ (d : ℕ) (q : Bool). eqb d 0 && not q) (sym (shows-depth (i + 1) _ _ s)) s.stop)

-- ---- every history

at_first : (n : ℕ) → Kept n [] (fresh_locks n)
unfolding fresh_locks latest_view
at_first n = record {
  size = refl;
  view = refl;
  eight = length-replicate {A = Axis} 8 free;
  each = λ a l h.
      let i : a - 1 < 8 = omega arith in
      subst (λ (x : Axis). Shows a [] x) (sym (get_or-replicate {A = Axis} 8 (a - 1) free free i)) (shows-free a);
}

kept : (n : ℕ) (h : List Event) → Kept n (accepted_events n h) (locks_after n h)
unfolding accepted_events locks_after
kept n [] = at_first n
kept n (e ∷ h) = (next n (accepted_events n h) (locks_after n h) (kept n h) e).kept

shown-live : (n : ℕ) (h : List Event) → joystick_of (locks_after n h) ≡ live n h
unfolding joystick_of
shown-live n h = live-is n h (locks_after n h).axes (kept n h).each

pub by-history : ByHistory
by-history n h =
    let k = kept n h in
    record {
      answers = λ e. (next n (accepted_events n h) (locks_after n h) k e).answers;
      view = k.view;
      each = λ a l u.
          let s = k.each a l u in
          axis-is (axis_at (locks_after n h) a) (sym (shows-holder a _ _ s)) (sym (shows-depth a _ _ s)) s.move s.stop;
      joystick = shown-live n h;
    }
  where
    axis-is : (x : Axis) {m d : ℕ} {p q : Bool} → x.holder ≡ m → x.depth ≡ d → x.moving ≡ p → x.stopping ≡ q → x ≡ axis m d p q
    axis-is x {m} {d} e f g h = ap₂ (λ (m d : ℕ). axis m d x.moving x.stopping) e f ∙ ap₂ (λ (p q : Bool). axis m d p q) g h
