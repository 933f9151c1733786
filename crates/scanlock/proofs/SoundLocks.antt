-- An opening gives sound locks, and every event keeps them: axis by axis.
use Prim.Native.Nat.{ℕ, ◌+◌, ◌-◌, ◌^◌, ◌≤◌, ◌<◌}
use mathlib.Core.Path.{◌≡◌, refl, sym, ap, ◌∙◌, subst}
use mathlib.Core.Bool.{Bool, true, false, cond, not, ◌&&◌, ◌||◌}
use mathlib.Core.Logic.{⊎_elim}
use native.Mathlib.Omega.{arith}
use borrow.Author.Tests.{eqb-true, eqb-false, eq-eqb, ne_eqb, leb-true, leb-false, le-leb, ltb-true}
use lib.Dec.{eqb, leb, ltb}
use lib.ListN.{get_or, set, length, length-set, length-replicate, get_or-replicate}
use lib.Seq.{get_or-set_same, get_or-set_other}
use Rattle.words.proofs.BitLaws.{full-lt}
use Rattle.words.proofs.Truth.{which, cond-true, cond-false, and_l, and_r, and-true}
use Rattle.words.proofs.TableLaws.{updated-at, updated-length}
use Rattle.scanlock.specs.Axis.{axis, free, axis_answer, present, on_axis, barred, begun_of, ended_of, started_of, aborted_of, finished_of, stopped_of, deeper, shallower, moved, lost_of}
use Rattle.scanlock.specs.Locks.{locks, fresh_locks, axis_at, with_axis, admits, refused_of, put_of, settled_of, seen_axes, set_view_of, begin_of, end_of, start_move_of, abort_of, finished_by, stopped_by, event_of}
use Rattle.scanlock.specs.SoundLocks.{held_well, axis_fits, SoundLocks, StaySound}
use Rattle.scanlock.specs.declared.Axis.{Axis}
use Rattle.scanlock.specs.declared.Locks.{Locks}
use Rattle.scanlock.specs.declared.Event.{Event}
use Rattle.scanlock.specs.declared.Event.TheVariants.{View, Begin, End, Start, Abort, Finished, Stopped}
use Rattle.scanlock.proofs.LockEventLaws.{on-axis, admitted}

-- ---- an axis that fits, taken apart

pub record Fits (view : ℕ) (x : Axis) : Type 0 where
  pub deep : x.depth ≤ 8
  pub owned : held_well view x ≡ true
  pub halts : x.moving || not x.stopping ≡ true

pub fits-of : (view : ℕ) (x : Axis) → axis_fits view x ≡ true → Fits view x
unfolding axis_fits
fits-of view x e =
    let a = and_l (leb x.depth 8 && held_well view x) _ e in
    record {
      deep = leb-true x.depth 8 (and_l (leb x.depth 8) _ a);
      owned = and_r (leb x.depth 8) _ a;
      halts = and_r (leb x.depth 8 && held_well view x) _ e;
    }

pub of-fits : (view : ℕ) (x : Axis) → Fits view x → axis_fits view x ≡ true
unfolding axis_fits
of-fits view x f = and-true _ _ (and-true _ _ (le-leb _ _ f.deep) f.owned) f.halts

-- ---- what events do to one

deeper-fits : (view : ℕ) (x : Axis) (by : ℕ) → present view by ≡ true → x.depth < 8 → Fits view x → Fits view (deeper x by)
unfolding deeper held_well
deeper-fits view x by p l f =
    record {
      deep =
          omega arith;
      owned = cond-false _ _ (ne_eqb (x.depth + 1) 0 (λ (z : x.depth + 1 ≡ 0). omega arith)) ∙ p;
      halts = f.halts;
    }

shallower-fits : (view : ℕ) (x : Axis) → (x.depth ≡ 0 → ⊥) → Fits view x → Fits view (shallower x)
unfolding shallower held_well
shallower-fits view x n f = record {
  deep = less x.depth f.deep;
  owned =
      ⊎_elim
      (λ (o : eqb x.depth 1 ≡ true). cond-true _ _ (eq-eqb (x.depth - 1) 0 (last x.depth (eqb-true _ 1 o)))
      ∙ eq-eqb _ 0 (cond-true 0 x.holder o))
      (λ (o : eqb x.depth 1 ≡ false).
      cond-false _ _ (ne_eqb (x.depth - 1) 0 (more x.depth n (eqb-false _ 1 o)))
      ∙ ap (present view) (cond-false 0 x.holder o)
      ∙ sym (cond-false _ _ (ne_eqb x.depth 0 n)) ∙ f.owned)
      (which (eqb x.depth 1));
  halts = f.halts;
}
  where
    less : (d : ℕ) → d ≤ 8 → d - 1 ≤ 8
    less d h = omega arith

    last : (d : ℕ) → d ≡ 1 → d - 1 ≡ 0
    last d e = omega arith

    more : (d : ℕ) → (d ≡ 0 → ⊥) → (d ≡ 1 → ⊥) → d - 1 ≡ 0 → ⊥
    more d a b e = a (lowest-of d b e)
      where
        lowest-of : (d : ℕ) → (d ≡ 1 → ⊥) → d - 1 ≡ 0 → d ≡ 0
        lowest-of d b e = omega arith

moved-fits : (view : ℕ) (x : Axis) → Fits view x → Fits view (moved x)
unfolding moved held_well
moved-fits view x f = record { deep = f.deep; owned = f.owned; halts = refl }

aborted-fits : (view : ℕ) (x : Axis) → Fits view x → Fits view (aborted_of x)
unfolding aborted_of held_well
aborted-fits view x f = record { deep = f.deep; owned = f.owned; halts = halts x.moving x.stopping f.halts }
  where
    halts : (m s : Bool) → m || not s ≡ true → m || not (s || m) ≡ true
    halts true s e = refl
    halts false true e = e
    halts false false e = refl

finished-fits : (view : ℕ) (x : Axis) → Fits view x → Fits view (finished_of x)
unfolding finished_of held_well
finished-fits view x f = record { deep = f.deep; owned = f.owned; halts = halts x.moving x.stopping f.halts }
  where
    halts : (m s : Bool) → m || not s ≡ true → (m && s) || not s ≡ true
    halts true true e = refl
    halts true false e = refl
    halts false s e = e

free-fits : (view : ℕ) → Fits view free
unfolding held_well
free-fits view = record { deep = omega arith; owned = refl; halts = refl }

stopped-fits : (view : ℕ) (x : Axis) → Fits view x → Fits view (stopped_of x)
unfolding stopped_of
stopped-fits view x f =
    ⊎_elim
    (λ (p : x.stopping ≡ true). subst (λ (y : Axis). Fits view y) (sym (cond-true free x p)) (free-fits view))
    (λ (p : x.stopping ≡ false). subst (λ (y : Axis). Fits view y) (sym (cond-false free x p)) f)
    (which x.stopping)

-- under a new view the holder is in it, or gone
lost-fits : (old view : ℕ) (x : Axis) → Fits old x → Fits view (lost_of view x)
unfolding lost_of held_well
lost-fits old view x f =
    ⊎_elim
    (λ (p : present view x.holder ≡ true).
    subst (λ (y : Axis). Fits view y) (sym (cond-true x (axis 0 0 x.moving x.stopping) p))
    (record {
      deep = f.deep;
      owned =
          ⊎_elim
          (λ (o : eqb x.depth 0 ≡ true). cond-true _ _ o ∙ sym (cond-true _ _ o) ∙ f.owned)
          (λ (o : eqb x.depth 0 ≡ false). cond-false _ _ o ∙ p)
          (which (eqb x.depth 0));
      halts = f.halts;
    }))
    (λ (p : present view x.holder ≡ false).
    subst (λ (y : Axis). Fits view y) (sym (cond-false x (axis 0 0 x.moving x.stopping) p))
    (record { deep = omega arith; owned = refl; halts = f.halts }))
    (which (present view x.holder))

-- ---- the locks

pub fresh-sound : (n : ℕ) → 2 ≤ n → n ≤ 16 → SoundLocks (fresh_locks n)
unfolding fresh_locks
fresh-sound n l h = record {
  least = l;
  most = h;
  view = full-lt n;
  eight = length-replicate {A = Axis} 8 free;
  each = λ i k. ap (axis_fits _) (get_or-replicate {A = Axis} 8 i free free k) ∙ of-fits _ free (free-fits _);
}

module _ (st : Locks) (s : SoundLocks st) where
  fits-at : (b : ℕ) → 1 ≤ b → b ≤ 8 → Fits st.view (axis_at st b)
  fits-at b l h = fits-of _ _ (s.each (b - 1) (omega arith))

  put-sound : (b : ℕ) (y : Axis) → 1 ≤ b → b ≤ 8 → Fits st.view y → SoundLocks (with_axis st b y)
  put-sound b y l h f = record {
    least = s.least;
    most = s.most;
    view = s.view;
    eight = length-set st.axes (b - 1) y ∙ s.eight;
    each = λ i k.
        ⊎_elim
        (λ (p : eqb i (b - 1) ≡ true).
        let m : b - 1 < length st.axes = rw s.eight (omega arith) in
        ap (λ (j : ℕ). axis_fits st.view (get_or (set st.axes (b - 1) y) j free)) (eqb-true i (b - 1) p)
        ∙ ap (axis_fits st.view) (get_or-set_same st.axes (b - 1) y free m) ∙ of-fits _ y f)
        (λ (p : eqb i (b - 1) ≡ false).
        ap (axis_fits st.view) (get_or-set_other st.axes (b - 1) i y free (eqb-false i (b - 1) p)) ∙ s.each i k)
        (which (eqb i (b - 1)));
  }

  asked-sound : (by b : ℕ) (test : Bool) (y : Axis)
      → (1 ≤ b → b ≤ 8 → present st.view by ≡ true → test ≡ false → Fits st.view y)
      → SoundLocks (cond (admits st by b)
      (settled_of st b (cond (barred (axis_at st b) by) (axis_answer 20 (axis_at st b)) (cond test (axis_answer 21 (axis_at st b)) (axis_answer 0 y))))
      (refused_of st 19)).locks
  unfolding settled_of admits
  asked-sound by b test y f =
      ⊎_elim
      (λ (p : on_axis b && leb by st.n && present st.view by ≡ true).
      let (l, u) = on-axis b (and_l (on_axis b) _ (and_l (on_axis b && leb by st.n) _ p)) in
      ⊎_elim
      (λ (q : barred (axis_at st b) by ≡ true). rw (p, q) s)
      (λ (q : barred (axis_at st b) by ≡ false).
      ⊎_elim
      (λ (w : test ≡ true). rw (p, q, w) s)
      (λ (w : test ≡ false). rw (p, q, w) (put-sound b y l u (f l u (and_r (on_axis b && leb by st.n) _ p) w)))
      (which test))
      (which (barred (axis_at st b) by)))
      (λ (p : on_axis b && leb by st.n && present st.view by ≡ false). rw p s)
      (which (on_axis b && leb by st.n && present st.view by))

  told-sound : (t : Bool) (b : ℕ) (y : Axis) → (t ≡ true → (1 ≤ b) × (b ≤ 8)) → (1 ≤ b → b ≤ 8 → Fits st.view y)
      → SoundLocks (cond t (put_of st b y) (refused_of st 19)).locks
  told-sound true b y h f = let (l, u) = h refl in put-sound b y l u (f l u)
  told-sound false b y h f = s

  seen-sound : (view : ℕ) → view < 2 ^ st.n → SoundLocks (locks st.n view (seen_axes view st.axes))
  unfolding seen_axes
  seen-sound view l = record {
    least = s.least;
    most = s.most;
    view = l;
    eight = updated-length 8 _ st.axes ∙ s.eight;
    each = λ i k.
        let m : 8 ≤ length st.axes = rw s.eight (omega arith) in
        ap (axis_fits view) (updated-at 8 (λ j. lost_of view (get_or st.axes j free)) st.axes i free k m)
        ∙ of-fits view _ (lost-fits st.view view _ (fits-of _ _ (s.each i k)));
  }

pub event-sound : (st : Locks) (e : Event) → SoundLocks st → SoundLocks (event_of st e).locks
unfolding event_of set_view_of begin_of begun_of end_of ended_of start_move_of started_of abort_of finished_by stopped_by
event-sound st (View view) s =
    ⊎_elim (λ (p : ltb view (2 ^ st.n) ≡ true). rw p (seen-sound st s view (ltb-true _ _ p)))
    (λ (p : ltb view (2 ^ st.n) ≡ false). rw p s)
    (which (ltb view (2 ^ st.n)))
event-sound st (Begin by b) s =
    asked-sound st s by b (leb 8 (axis_at st b).depth) (deeper (axis_at st b) by)
    (λ l u p w. deeper-fits _ _ by p (leb-false 8 _ w) (fits-at st s b l u))
event-sound st (End by b) s =
    asked-sound st s by b (eqb (axis_at st b).depth 0) (shallower (axis_at st b))
    (λ l u p w. shallower-fits _ _ (eqb-false _ 0 w) (fits-at st s b l u))
event-sound st (Start by b) s =
    asked-sound st s by b (eqb (axis_at st b).depth 0) (moved (axis_at st b)) (λ l u p w. moved-fits _ _ (fits-at st s b l u))
event-sound st (Abort by b) s =
    told-sound st s (admits st by b) b _ (admitted st by b) (λ l u. aborted-fits _ _ (fits-at st s b l u))
event-sound st (Finished b) s = told-sound st s (on_axis b) b _ (on-axis b) (λ l u. finished-fits _ _ (fits-at st s b l u))
event-sound st (Stopped b) s = told-sound st s (on_axis b) b _ (on-axis b) (λ l u. stopped-fits _ _ (fits-at st s b l u))

pub stay-sound : StaySound
stay-sound = record { at_first = fresh-sound; kept = event-sound }
