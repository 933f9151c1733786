-- One axis and its history: what an accepted event does to the axis is what it does to the locks and the move that the history leaves.
use Prim.Native.Nat.{ℕ, zero, suc, ◌+◌, ◌-◌, ◌≤◌}
use mathlib.Core.Path.{◌≡◌, refl, sym, ap, ap₂, ◌∙◌, subst}
use mathlib.Core.Bool.{Bool, true, false, cond, ◌&&◌, ◌||◌, true≢false, false≢true}
use mathlib.Core.Logic.{◌⊎◌, inl, inr, ⊎_elim}
use mathlib.Core.List.{List, [], ◌∷◌}
use native.Mathlib.Omega.{arith}
use borrow.Author.Tests.{eqb-true, eq-eqb, ne_eqb}
use lib.Dec.{eqb}
use lib.ListN.{get_or, length, replicate, length-replicate}
use Rattle.words.proofs.Truth.{which, cond-true, cond-false, cond_same, and-true, and_false_r}
use Rattle.scanlock.specs.Axis.{axis, free, present, barred, deeper, shallower, moved, aborted_of, finished_of, stopped_of, lost_of}
use Rattle.scanlock.specs.History.{Motion, resting, moving, halting, started_motion, aborted_motion, finished_motion, stopped_motion, motion, is_unfinished, is_halting, left, depth, holder, unfinished, stopping}
use Rattle.scanlock.specs.declared.Axis.{Axis}
use Rattle.scanlock.specs.declared.Event.{Event}
use Rattle.scanlock.specs.declared.Event.TheVariants.{View, Begin, End, Start, Abort, Finished, Stopped}

-- the locks that an axis holds, less the newest `ends`, if its holder stays
abbrev pub held : Axis → ℕ → (ℕ → Bool) → List ℕ
held x ends stays = cond (stays x.holder) (replicate (x.depth - ends) x.holder) []

-- axis a after the accepted events t
pub record Shows (a : ℕ) (t : List Event) (x : Axis) : Type 0 where
  pub locks : (ends : ℕ) (stays : ℕ → Bool) → left a ends stays t ≡ held x ends stays
  pub nobody : x.depth ≡ 0 → x.holder ≡ 0
  pub nothing : x.holder ≡ 0 → x.depth ≡ 0
  pub move : x.moving ≡ unfinished a t
  pub stop : x.stopping ≡ stopping a t

-- ---- what is left of no locks

none : (x : Axis) (ends : ℕ) (stays : ℕ → Bool) → x.depth ≡ 0 → held x ends stays ≡ []
none x ends stays e =
    let k : x.depth - ends ≡ 0 = omega arith in
    rw k (cond_same (stays x.holder) [])

-- ---- the holder and the depth, read off the locks

whole-list : (d h : ℕ) → replicate (d - 0) h ≡ replicate d h
whole-list d h = let e : d - 0 ≡ d = omega arith in ap (λ (k : ℕ). replicate k h) e

pub shows-depth : (a : ℕ) (t : List Event) (x : Axis) → Shows a t x → depth a t ≡ x.depth
shows-depth a t x s =
    ap (λ (l : List ℕ). length l) (s.locks 0 (λ by. true) ∙ whole-list x.depth x.holder) ∙ length-replicate x.depth x.holder

first_of : (d h : ℕ) → (d ≡ 0 → h ≡ 0) → get_or (replicate d h) 0 0 ≡ h
first_of zero h e = sym (e refl)
first_of (suc d) h e = refl

pub shows-holder : (a : ℕ) (t : List Event) (x : Axis) → Shows a t x → holder a t ≡ x.holder
shows-holder a t x s =
    ap (λ (l : List ℕ). get_or l 0 0) (s.locks 0 (λ by. true) ∙ whole-list x.depth x.holder)
    ∙ first_of x.depth x.holder s.nobody

-- ---- at first

pub shows-free : (a : ℕ) → Shows a [] free
unfolding left motion is_unfinished is_halting
shows-free a =
    record { locks = λ ends stays. sym (none free ends stays refl); nobody = λ e. refl; nothing = λ e. refl; move = refl; stop = refl }

-- ---- histories that leave the same of axis a

pub record LeaveAlike (a : ℕ) (t t' : List Event) : Type 0 where
  pub locks : (ends : ℕ) (stays : ℕ → Bool) → left a ends stays t ≡ left a ends stays t'
  pub motion : motion a t ≡ motion a t'

pub alike-shows : (a : ℕ) (t t' : List Event) (x : Axis) → LeaveAlike a t t' → Shows a t' x → Shows a t x
alike-shows a t t' x o s = record {
  locks = λ ends stays. o.locks ends stays ∙ s.locks ends stays;
  nobody = s.nobody;
  nothing = s.nothing;
  move = s.move ∙ ap is_unfinished (sym o.motion);
  stop = s.stop ∙ ap is_halting (sym o.motion);
}

-- an event that leaves of axis a what was there
abbrev pub Same : ℕ → List Event → Event → Type 0
Same a t e = LeaveAlike a (e ∷ t) t

-- ---- an event of another axis

module _ (a b : ℕ) (t : List Event) (f : eqb b a ≡ false) where
  pub other-begin : (by : ℕ) → Same a t (Begin by b)
  unfolding left motion
  other-begin by = record { locks = λ ends stays. cond-false _ _ f; motion = refl }

  pub other-end : (by : ℕ) → Same a t (End by b)
  unfolding left motion
  other-end by = record { locks = λ ends stays. cond-false _ _ f; motion = refl }

  pub other-start : (by : ℕ) → Same a t (Start by b)
  unfolding left motion
  other-start by = record { locks = λ ends stays. refl; motion = cond-false _ _ f }

  pub other-abort : (by : ℕ) → Same a t (Abort by b)
  unfolding left motion
  other-abort by = record { locks = λ ends stays. refl; motion = cond-false _ _ f }

  pub other-finished : Same a t (Finished b)
  unfolding left motion
  other-finished = record { locks = λ ends stays. refl; motion = cond-false _ _ f }

  pub other-stopped : Same a t (Stopped b)
  unfolding left motion
  other-stopped = record { locks = λ ends stays. rw f refl; motion = cond-false _ _ f }

-- ---- a view

pub shows-view : (a : ℕ) (t : List Event) (view : ℕ) (x : Axis) → Shows a t x → Shows a (View view ∷ t) (lost_of view x)
unfolding left motion lost_of
shows-view a t view x s =
    ⊎_elim
    (λ (p : present view x.holder ≡ true).
    rw p (record {
      locks = λ ends stays. s.locks ends (λ by. stays by && present view by) ∙ stays_on (stays x.holder) _ _ p;
      nobody = s.nobody;
      nothing = s.nothing;
      move = s.move;
      stop = s.stop;
    }))
    (λ (p : present view x.holder ≡ false).
    rw p (record {
      locks = λ ends stays.
          s.locks ends (λ by. stays by && present view by) ∙ goes (stays x.holder) _ _ p
          ∙ sym (none (axis 0 0 x.moving x.stopping) ends stays refl);
      nobody = λ e. refl;
      nothing = λ e. refl;
      move = s.move;
      stop = s.stop;
    }))
    (which (present view x.holder))
  where
    stays_on : (b p : Bool) (l : List ℕ) → p ≡ true → cond (b && p) l [] ≡ cond b l []
    stays_on true p l e = rw e refl
    stays_on false p l e = refl

    goes : (b p : Bool) (l : List ℕ) → p ≡ false → cond (b && p) l [] ≡ []
    goes true p l e = rw e refl
    goes false p l e = refl

-- ---- begin

-- whoever is not barred holds the axis already, or nobody does
own-axis : (x : Axis) (by : ℕ) → barred x by ≡ false → (x.holder ≡ by) ⊎ (x.holder ≡ 0)
unfolding barred
own-axis x by f =
    ⊎_elim
    (λ (z : eqb x.holder 0 ≡ true). inr (eqb-true _ 0 z))
    (λ (z : eqb x.holder 0 ≡ false).
    ⊎_elim
    (λ (o : eqb x.holder by ≡ true). inl (eqb-true _ by o))
    (λ (o : eqb x.holder by ≡ false). absurd (true≢false (rw (z, o) at f)))
    (which (eqb x.holder by)))
    (which (eqb x.holder 0))

-- so its locks are as if the beginner held them
own-locks : (x : Axis) (by ends : ℕ) (stays : ℕ → Bool) → (x.holder ≡ by) ⊎ (x.holder ≡ 0) → (x.holder ≡ 0 → x.depth ≡ 0)
    → held x ends stays ≡ cond (stays by) (replicate (x.depth - ends) by) []
own-locks x by ends stays o n =
    ⊎_elim
    (λ (e : x.holder ≡ by). ap (λ (m : ℕ). cond (stays m) (replicate (x.depth - ends) m) []) e)
    (λ (e : x.holder ≡ 0).
    let d = n e in
    let k : x.depth - ends ≡ 0 = omega arith in
    none x ends stays d ∙ sym (rw k (cond_same (stays by) [])))
    o

-- one lock more, at the front
one_more : (b : Bool) (d by : ℕ)
    → cond b (by ∷ cond b (replicate (d - 0) by) []) (cond b (replicate (d - 0) by) []) ≡ cond b (replicate (d + 1 - 0) by) []
one_more true d by =
    let e : d - 0 ≡ d = omega arith in
    let g : d + 1 - 0 ≡ suc d = omega arith in
    rw (e, g) refl
one_more false d by = refl

begin-locks : (a ends : ℕ) (stays : ℕ → Bool) (t : List Event) (x : Axis) (by : ℕ) → Shows a t x → barred x by ≡ false
    → left a ends stays (Begin by a ∷ t) ≡ held (deeper x by) ends stays
unfolding left deeper
begin-locks a zero stays t x by s f =
    let k = s.locks 0 stays ∙ own-locks x by 0 stays (own-axis x by f) s.nothing in
    cond-true _ _ (eq-eqb a a refl) ∙ rw k (one_more (stays by) x.depth by)
begin-locks a (suc e) stays t x by s f =
    let k = s.locks e stays ∙ own-locks x by e stays (own-axis x by f) s.nothing in
    let z : eqb (suc e) 0 ≡ false = ne_eqb _ 0 (λ (h : suc e ≡ 0). omega arith) in
    let g : x.depth + 1 - suc e ≡ x.depth - e = omega arith in
    let g' : suc e - 1 ≡ e = omega arith in
    cond-true _ _ (eq-eqb a a refl) ∙ cond-false _ _ z ∙ rw (g', g) k

pub shows-begin : (a : ℕ) (t : List Event) (x : Axis) (by : ℕ) → 1 ≤ by → barred x by ≡ false → Shows a t x
    → Shows a (Begin by a ∷ t) (deeper x by)
unfolding motion deeper
shows-begin a t x by h f s = record {
  locks = λ ends stays. begin-locks a ends stays t x by s f;
  nobody = λ (e : x.depth + 1 ≡ 0). absurd (no_more x.depth e);
  nothing = λ (e : by ≡ 0). absurd (not-zero by h e);
  move = s.move;
  stop = s.stop;
}
  where
    no_more : (d : ℕ) → d + 1 ≡ 0 → ⊥
    no_more d e = omega arith

    not-zero : (m : ℕ) → 1 ≤ m → m ≡ 0 → ⊥
    not-zero m h e = omega arith

-- ---- end

end-locks : (a ends : ℕ) (stays : ℕ → Bool) (t : List Event) (x : Axis) (by : ℕ) → Shows a t x
    → left a ends stays (End by a ∷ t) ≡ held (shallower x) ends stays
unfolding left shallower
end-locks a ends stays t x by s =
    let g : x.depth - 1 - ends ≡ x.depth - (ends + 1) = omega arith in
    cond-true _ _ (eq-eqb a a refl) ∙ s.locks (ends + 1) stays
    ∙ ⊎_elim
    (λ (o : eqb x.depth 1 ≡ true).
    let d = eqb-true x.depth 1 o in
    let k : x.depth - (ends + 1) ≡ 0 = omega arith in
    rw (o, g, k) (cond_same (stays x.holder) [] ∙ sym (cond_same (stays 0) [])))
    (λ (o : eqb x.depth 1 ≡ false). rw (o, g) refl)
    (which (eqb x.depth 1))

pub shows-end : (a : ℕ) (t : List Event) (x : Axis) (by : ℕ) → (x.depth ≡ 0 → ⊥) → Shows a t x → Shows a (End by a ∷ t) (shallower x)
unfolding motion shallower
shows-end a t x by n s = record {
  locks = λ ends stays. end-locks a ends stays t x by s;
  nobody = λ (e : x.depth - 1 ≡ 0). let d : x.depth ≡ 1 = one_left x.depth n e in cond-true 0 x.holder (eq-eqb _ 1 d);
  nothing = λ (e : cond (eqb x.depth 1) 0 x.holder ≡ 0).
      ⊎_elim
      (λ (o : eqb x.depth 1 ≡ true). last x.depth (eqb-true _ 1 o))
      (λ (o : eqb x.depth 1 ≡ false). absurd (n (s.nothing (rw o at e))))
      (which (eqb x.depth 1));
  move = s.move;
  stop = s.stop;
}
  where
    one_left : (d : ℕ) → (d ≡ 0 → ⊥) → d - 1 ≡ 0 → d ≡ 1
    one_left d n e = omega arith

    last : (d : ℕ) → d ≡ 1 → d - 1 ≡ 0
    last d e = omega arith

-- ---- the moves that a history can leave

started-moves : (m : Motion) → true ≡ is_unfinished (started_motion m)
unfolding started_motion is_unfinished
started-moves resting = refl
started-moves moving = refl
started-moves halting = refl

started-stop : (m : Motion) → is_halting m ≡ is_halting (started_motion m)
unfolding started_motion is_halting
started-stop resting = refl
started-stop moving = refl
started-stop halting = refl

aborted-moves : (m : Motion) → is_unfinished m ≡ is_unfinished (aborted_motion m)
unfolding aborted_motion is_unfinished
aborted-moves resting = refl
aborted-moves moving = refl
aborted-moves halting = refl

aborted-stop : (m : Motion) → is_halting m || is_unfinished m ≡ is_halting (aborted_motion m)
unfolding aborted_motion is_unfinished is_halting
aborted-stop resting = refl
aborted-stop moving = refl
aborted-stop halting = refl

finished-moves : (m : Motion) → is_unfinished m && is_halting m ≡ is_unfinished (finished_motion m)
unfolding finished_motion is_unfinished is_halting
finished-moves resting = refl
finished-moves moving = refl
finished-moves halting = refl

finished-stop : (m : Motion) → is_halting m ≡ is_halting (finished_motion m)
unfolding finished_motion is_halting
finished-stop resting = refl
finished-stop moving = refl
finished-stop halting = refl

stopped-rests : (m : Motion) → is_halting m ≡ true → stopped_motion m ≡ resting
unfolding stopped_motion is_halting
stopped-rests resting e = absurd (false≢true e)
stopped-rests moving e = absurd (false≢true e)
stopped-rests halting e = refl

stopped-stays : (m : Motion) → is_halting m ≡ false → stopped_motion m ≡ m
unfolding stopped_motion is_halting
stopped-stays resting e = refl
stopped-stays moving e = refl
stopped-stays halting e = absurd (true≢false e)

-- ---- stop reports

module _ (a : ℕ) (t : List Event) where
  -- of a stopping axis: as if nothing had been
  pub stop-ends : stopping a t ≡ true → LeaveAlike a (Stopped a ∷ t) []
  unfolding left motion
  stop-ends q = record {
    locks = λ ends stays. cond-true _ _ (and-true (eqb a a) _ (eq-eqb a a refl) q);
    motion = cond-true _ _ (eq-eqb a a refl) ∙ stopped-rests (motion a t) q;
  }

  -- of another: as if it had not come
  pub stop-idle : stopping a t ≡ false → Same a t (Stopped a)
  unfolding left motion
  stop-idle q = record {
    locks = λ ends stays. cond-false _ _ (and_false_r (eqb a a) _ q);
    motion = cond-true _ _ (eq-eqb a a refl) ∙ stopped-stays (motion a t) q;
  }

-- ---- moves

module _ (a : ℕ) (t : List Event) (x : Axis) (s : Shows a t x) where
  pub shows-start : (by : ℕ) → Shows a (Start by a ∷ t) (moved x)
  unfolding left motion moved
  shows-start by = record {
    locks = s.locks;
    nobody = s.nobody;
    nothing = s.nothing;
    move = started-moves (motion a t) ∙ ap is_unfinished (sym (cond-true _ _ (eq-eqb a a refl)));
    stop = s.stop ∙ started-stop (motion a t) ∙ ap is_halting (sym (cond-true _ _ (eq-eqb a a refl)));
  }

  pub shows-abort : (by : ℕ) → Shows a (Abort by a ∷ t) (aborted_of x)
  unfolding left motion aborted_of
  shows-abort by = record {
    locks = s.locks;
    nobody = s.nobody;
    nothing = s.nothing;
    move = s.move ∙ aborted-moves (motion a t) ∙ ap is_unfinished (sym (cond-true _ _ (eq-eqb a a refl)));
    stop = ap₂ (λ (p q : Bool). p || q) s.stop s.move ∙ aborted-stop (motion a t)
        ∙ ap is_halting (sym (cond-true _ _ (eq-eqb a a refl)));
  }

  pub shows-finished : Shows a (Finished a ∷ t) (finished_of x)
  unfolding left motion finished_of
  shows-finished = record {
    locks = s.locks;
    nobody = s.nobody;
    nothing = s.nothing;
    move = ap₂ (λ (p q : Bool). p && q) s.move s.stop ∙ finished-moves (motion a t)
        ∙ ap is_unfinished (sym (cond-true _ _ (eq-eqb a a refl)));
    stop = s.stop ∙ finished-stop (motion a t) ∙ ap is_halting (sym (cond-true _ _ (eq-eqb a a refl)));
  }

  pub shows-stopped : Shows a (Stopped a ∷ t) (stopped_of x)
  unfolding stopped_of
  shows-stopped =
      ⊎_elim
      (λ (p : x.stopping ≡ true). rw p (alike-shows a (Stopped a ∷ t) [] free (stop-ends a t (sym s.stop ∙ p)) (shows-free a)))
      (λ (p : x.stopping ≡ false).
      subst (λ (y : Axis). Shows a (Stopped a ∷ t) y) (sym (cond-false free x p))
      (alike-shows a (Stopped a ∷ t) t x (stop-idle a t (sym s.stop ∙ p)) s))
      (which x.stopping)
