-- The moves that the history leaves are those of the events: by induction, event by event.
use Prim.Native.Nat.{ℕ, ◌+◌, ◌-◌}
use mathlib.Core.Path.{◌≡◌, refl, sym, ap, ◌∙◌, subst}
use mathlib.Core.Bool.{Bool, true, false, cond, not, ◌&&◌, ◌||◌, true≢false, false≢true}
use mathlib.Core.Logic.{◌↔◌, ◌≢◌, ◌⊎◌, inl, inr, ⊎_elim}
use mathlib.Core.List.Memᴰ
use mathlib.Core.List.{List, [], ◌∷◌, ◌++◌, append-nil}
use native.Mathlib.Omega.{arith}
use borrow.Author.Tests.{eqb-true, eq-eqb}
use lib.Dec.{eqb, leb}
use lib.Seq.{set-get_or}
use Rattle.words.proofs.Truth.{which, clash, cond-true, cond-false, and_l, or-false-r}
use Rattle.scanlock.specs.Axis.{axis, free, aborted_of, finished_of, stopped_of, on_axis}
use Rattle.scanlock.specs.History.{Motion, resting, moving, halting, started_motion, aborted_motion, finished_motion, stopped_motion, motion, is_unfinished, is_halting, left, standing, depth, holder, unfinished, stopping, named, taken, number, accepted_events}
use Rattle.scanlock.specs.Locks.{locks, axis_at, with_axis, admits, put_of, refused_of, abort_of, finished_by, stopped_by, event_of}
use Rattle.scanlock.specs.ByHistory.{locks_after}
use Rattle.scanlock.specs.ByEvents.{No, Running, Aborted, Stopping, Unfinished, AbortsStop, MotionByEvents, Unchanged, ChangesNothing}
use Rattle.scanlock.specs.declared.Axis.{Axis}
use Rattle.scanlock.specs.declared.Locks.{Locks}
use Rattle.scanlock.specs.declared.Event.{Event}
use Rattle.scanlock.specs.declared.Event.TheVariants.{View, Begin, End, Start, Abort, Finished, Stopped}
use Rattle.scanlock.proofs.LockEventLaws.{on-axis}
use Rattle.scanlock.proofs.AxisHistory.{LeaveAlike, stop-ends, stop-idle}
use Rattle.scanlock.proofs.ByHistory.{by-history}

-- from what cannot be
never {ℓ} : {A : Type ℓ} → ◌≡◌ {A = ℕ} 0 1 → A
never z = let f : ⊥ = omega arith in absurd f

-- ---- one event more

-- none of no events, none of one event more
no_none : {e : Event} → No e []
no_none m = Memᴰ.not-nil m

no_more : {e d : Event} {l : List Event} → e ≢ d → No e l → No e (d ∷ l)
no_more ne none m = ⊎_elim ne none (Memᴰ.cases_cons m)

module _ (a : ℕ) where
  -- an event that leaves a running move running
  record Passes (e : Event) : Type 0 where
    not-finish : Finished a ≢ e
    not-abort : (m : ℕ) → Abort m a ≢ e

  running_more : (e : Event) (t : List Event) → Passes e → Running a t → Running a (e ∷ t)
  running_more e t p r = record {
    by = r.by;
    since = e ∷ r.since;
    before = r.before;
    started = ap (λ (l : List Event). e ∷ l) r.started;
    no_finish = no_more p.not-finish r.no_finish;
    no_abort = λ m. no_more (p.not-abort m) (r.no_abort m);
  }

  running-start : (by : ℕ) (t : List Event) → Running a (Start by a ∷ t)
  running-start by t = record { by = by; since = []; before = t; started = refl; no_finish = no_none; no_abort = λ m. no_none }

  -- a running move was started just now, or it was running before
  data Before (e : Event) (t : List Event) : Type 0 where
    now : (by : ℕ) → e ≡ Start by a → Before e t
    ago : Passes e → Running a t → Before e t

  running-less : (e : Event) (t : List Event) → Running a (e ∷ t) → Before e t
  running-less e t r = go r.since r.started r.no_finish r.no_abort
    where
      go : (since : List Event) → e ∷ t ≡ since ++ (Start r.by a ∷ r.before) → No (Finished a) since
          → ((m : ℕ) → No (Abort m a) since) → Before e t
      go [] s f b = now r.by (cc)
      go (d ∷ since) s f b =
          let g : e ≡ d = cc in
          let k : t ≡ since ++ (Start r.by a ∷ r.before) = cc in
          ago
          (record { not-finish = λ q. f (Memᴰ.head (q ∙ g)); not-abort = λ m q. b m (Memᴰ.head (q ∙ g)) })
          (record {
            by = r.by;
            since = since;
            before = r.before;
            started = k;
            no_finish = λ q. f (Memᴰ.tail q);
            no_abort = λ m q. b m (Memᴰ.tail q);
          })

  stopping-more : {Move : List Event → Type 0} (e : Event) (t : List Event) → Stopped a ≢ e → Aborted a Move t → Aborted a Move (e ∷ t)
  stopping-more e t ne s = record {
    by = s.by;
    since = e ∷ s.since;
    before = s.before;
    aborted = ap (λ (l : List Event). e ∷ l) s.aborted;
    during = s.during;
    no_stop = no_more ne s.no_stop;
  }

  stopping-abort : {Move : List Event → Type 0} (by : ℕ) (t : List Event) → Move t → Aborted a Move (Abort by a ∷ t)
  stopping-abort by t m = record { by = by; since = []; before = t; aborted = refl; during = m; no_stop = no_none }

  -- a stopping axis was aborted just now, or it was stopping before
  data Earlier (Move : List Event → Type 0) (e : Event) (t : List Event) : Type 0 where
    now : (by : ℕ) → e ≡ Abort by a → Move t → Earlier Move e t
    ago : Stopped a ≢ e → Aborted a Move t → Earlier Move e t

  stopping-less : {Move : List Event → Type 0} (e : Event) (t : List Event) → Aborted a Move (e ∷ t) → Earlier Move e t
  stopping-less {Move} e t s = go s.since s.aborted s.no_stop
    where
      go : (since : List Event) → e ∷ t ≡ since ++ (Abort s.by a ∷ s.before) → No (Stopped a) since → Earlier Move e t
      go [] q f = now s.by (cc) (let k : t ≡ s.before = cc in subst Move (sym k) s.during)
      go (d ∷ since) q f =
          let g : e ≡ d = cc in
          let k : t ≡ since ++ (Abort s.by a ∷ s.before) = cc in
          ago
          (λ o. f (Memᴰ.head (o ∙ g)))
          (record {
            by = s.by;
            since = since;
            before = s.before;
            aborted = k;
            during = s.during;
            no_stop = λ o. f (Memᴰ.tail o);
          })

  running_none : Running a [] → ⊥
  running_none r = go r.since r.started
    where
      go : (since : List Event) → [] ≡ since ++ (Start r.by a ∷ r.before) → ⊥
      go [] q = never (cc)
      go (d ∷ since) q = never (cc)

  stopping-none : {Move : List Event → Type 0} → Aborted a Move [] → ⊥
  stopping-none s = go s.since s.aborted
    where
      go : (since : List Event) → [] ≡ since ++ (Abort s.by a ∷ s.before) → ⊥
      go [] q = never (cc)
      go (d ∷ since) q = never (cc)

-- ---- an abort during any unfinished move

pub aborts-stop : AbortsStop
aborts-stop a h = (λ s. wider h s, λ s. back h s)
  where
    wider : (h : List Event) → Stopping a h → Aborted a (Unfinished a) h
    wider h s = record {
      by = s.by;
      since = s.since;
      before = s.before;
      aborted = s.aborted;
      during = inl s.during;
      no_stop = s.no_stop;
    }

    back : (h : List Event) → Aborted a (Unfinished a) h → Stopping a h
    back [] s = absurd (stopping-none a s)
    back (e ∷ t) s = elim (stopping-less a e t s) [
      | now by q (inl r) ↦ subst (λ (d : Event). Stopping a (d ∷ t)) (sym q) (stopping-abort a by t r)
      | now by q (inr r) ↦ subst (λ (d : Event). Stopping a (d ∷ t)) (sym q) (stopping-more a (Abort by a) t (λ q. never (cc)) r)
      | ago ne r ↦ stopping-more a e t ne (back t r)
    ]

-- ---- the moves that a history leaves

-- whether it is so
abbrev Holds : Bool → Type 0 → Type 0
Holds true P = P
Holds false P = P → ⊥

holds_as : (b : Bool) {P Q : Type 0} → P ↔ Q → Holds b P → Holds b Q
holds_as true i p = i.0 p
holds_as false i p = λ q. p (i.1 q)

holds-exactly : (b : Bool) {P : Type 0} → Holds b P → (b ≡ true) ↔ P
holds-exactly true p = (λ e. p, λ q. refl)
holds-exactly false p = (λ e. absurd (false≢true e), λ q. absurd (p q))

is_moving : Motion → Bool
is_moving resting = false
is_moving moving = true
is_moving halting = false

-- an event that starts, aborts or ends moves of axis a, if anything does
moves-it : ℕ → Event → Bool
moves-it a (View view) = false
moves-it a (Begin by b) = false
moves-it a (End by b) = false
moves-it a (Start by b) = eqb b a
moves-it a (Abort by b) = eqb b a
moves-it a (Finished b) = eqb b a
moves-it a (Stopped b) = eqb b a

-- an accepted start is on an axis that is not stopping
start-accepted : (n : ℕ) (t : List Event) (by a : ℕ) → number n t (Start by a) ≡ 0 → stopping a t ≡ false
unfolding number taken
start-accepted n t by a z =
    or-false-r (not (eqb (holder a t) 0) && not (eqb (holder a t) by)) (stopping a t)
    (not-twenty (named n t by a) (taken n t by a) (eqb (depth a t) 0) z)
  where
    not-twenty : (p q r : Bool) → ◌≡◌ {A = ℕ} (cond p (cond q 20 (cond r 21 0)) 19) 0 → q ≡ false
    not-twenty true true r e = let f : ⊥ = omega arith in absurd f
    not-twenty true false r e = refl
    not-twenty false q r e = let f : ⊥ = omega arith in absurd f

is_false : (b : Bool) → (b ≡ true → ⊥) → b ≡ false
is_false true f = absurd (f refl)
is_false false f = refl

-- what the events say of axis a, where this is left of its move
record Means (a : ℕ) (t : List Event) (m : Motion) : Type 0 where
  running : Holds (is_moving m) (Running a t)
  stops : Holds (is_halting m) (Stopping a t)

module _ (a : ℕ) (t : List Event) where
  running-same : (e : Event) → Passes a e → ((m : ℕ) → e ≢ Start m a) → Running a t ↔ Running a (e ∷ t)
  running-same e p n =
      (running_more a e t p, λ r. elim (running-less a e t r) [ now by q ↦ absurd (n by q) | ago _ s ↦ s ])

  stopping-same : (e : Event) → Stopped a ≢ e → ((m : ℕ) → e ≢ Abort m a) → Stopping a t ↔ Stopping a (e ∷ t)
  stopping-same e p n =
      (stopping-more a e t p, λ r. elim (stopping-less a e t r) [ now by q _ ↦ absurd (n by q) | ago _ s ↦ s ])

  -- an event of axis a
  start-stops : (by : ℕ) → Stopping a t ↔ Stopping a (Start by a ∷ t)
  start-stops by = stopping-same (Start by a) (λ q. never (cc)) (λ m q. never (cc))

  finish-stops : Stopping a t ↔ Stopping a (Finished a ∷ t)
  finish-stops = stopping-same (Finished a) (λ q. never (cc)) (λ m q. never (cc))

  stop-runs : Running a t ↔ Running a (Stopped a ∷ t)
  stop-runs = running-same (Stopped a) (record { not-finish = λ q. never (cc); not-abort = λ m q. never (cc) }) (λ m q. never (cc))

  abort-runs : (by : ℕ) → Running a (Abort by a ∷ t) → ⊥
  abort-runs by r = elim (running-less a (Abort by a) t r) [ now m q ↦ never (cc) | ago p _ ↦ p.not-abort by refl ]

  finish-runs : Running a (Finished a ∷ t) → ⊥
  finish-runs r = elim (running-less a (Finished a) t r) [ now m q ↦ never (cc) | ago p _ ↦ p.not-finish refl ]

  stop-stops : Stopping a (Stopped a ∷ t) → ⊥
  stop-stops s = elim (stopping-less a (Stopped a) t s) [ now m q _ ↦ never (cc) | ago p _ ↦ p refl ]

  means-start : (by : ℕ) (m : Motion) → is_halting m ≡ false → Means a t m → Means a (Start by a ∷ t) (started_motion m)
  unfolding started_motion is_moving is_halting
  means-start by resting e k = record { running = running-start a by t; stops = holds_as false (start-stops by) k.stops }
  means-start by moving e k = record { running = running-start a by t; stops = holds_as false (start-stops by) k.stops }
  means-start by halting e k = absurd (true≢false e)

  means-abort : (by : ℕ) (m : Motion) → Means a t m → Means a (Abort by a ∷ t) (aborted_motion m)
  unfolding aborted_motion is_moving is_halting
  means-abort by resting k = record {
    running = abort-runs by;
    stops = λ s. elim (stopping-less a (Abort by a) t s) [ now _ _ r ↦ k.running r | ago _ s ↦ k.stops s ];
  }
  means-abort by moving k = record { running = abort-runs by; stops = stopping-abort a by t k.running }
  means-abort by halting k = record { running = abort-runs by; stops = stopping-more a (Abort by a) t (λ q. never (cc)) k.stops }

  means-finished : (m : Motion) → Means a t m → Means a (Finished a ∷ t) (finished_motion m)
  unfolding finished_motion is_moving is_halting
  means-finished resting k = record { running = finish-runs; stops = holds_as false finish-stops k.stops }
  means-finished moving k = record { running = finish-runs; stops = holds_as false finish-stops k.stops }
  means-finished halting k = record { running = finish-runs; stops = holds_as true finish-stops k.stops }

  means-stopped : (m : Motion) → Means a t m → Means a (Stopped a ∷ t) (stopped_motion m)
  unfolding stopped_motion is_moving is_halting
  means-stopped resting k = record { running = holds_as false stop-runs k.running; stops = stop-stops }
  means-stopped moving k = record { running = holds_as true stop-runs k.running; stops = stop-stops }
  means-stopped halting k = record { running = holds_as false stop-runs k.running; stops = stop-stops }

  -- an event that is none of these
  means-other : (e : Event) (m : Motion) → moves-it a e ≡ false → Means a t m → Means a (e ∷ t) m
  unfolding moves-it
  means-other e m f k = record {
    running =
        holds_as (is_moving m)
        (running-same e (record { not-finish = λ q. differs (Finished a) same (sym q); not-abort = λ m q. differs (Abort m a) same (sym q) })
        (λ m. differs (Start m a) same))
        k.running;
    stops = holds_as (is_halting m) (stopping-same e (λ q. differs (Stopped a) same (sym q)) (λ m. differs (Abort m a) same)) k.stops;
  }
    where
      same : eqb a a ≡ true
      same = eq-eqb a a refl

      differs : (d : Event) → moves-it a d ≡ true → e ≢ d
      differs d g q = clash (moves-it a e) (ap (λ (x : Event). moves-it a x) q ∙ g) f

  -- an event that names an axis
  either : (e : ℕ → Event) (b : ℕ) (next : Motion → Motion) → (b ≡ a → Means a (e a ∷ t) (next (motion a t)))
      → moves-it a (e b) ≡ eqb b a → Means a t (motion a t) → Means a (e b ∷ t) (cond (eqb b a) (next (motion a t)) (motion a t))
  either e b next here there k =
      ⊎_elim
      (λ (p : eqb b a ≡ true).
      let q = eqb-true b a p in
      subst (λ (m : Motion). Means a (e b ∷ t) m) (sym (cond-true _ _ p))
      (subst (λ (c : ℕ). Means a (e c ∷ t) (next (motion a t))) (sym q) (here q)))
      (λ (p : eqb b a ≡ false).
      subst (λ (m : Motion). Means a (e b ∷ t) m) (sym (cond-false _ _ p)) (means-other (e b) (motion a t) (there ∙ p) k))
      (which (eqb b a))

  -- one accepted event more
  step : (n : ℕ) (e : Event) → number n t e ≡ 0 → Means a t (motion a t) → Means a (e ∷ t) (motion a (e ∷ t))
  unfolding motion moves-it
  step n (View view) z k = means-other (View view) (motion a t) refl k
  step n (Begin by b) z k = means-other (Begin by b) (motion a t) refl k
  step n (End by b) z k = means-other (End by b) (motion a t) refl k
  step n (Start by b) z k =
      let f = start-accepted n t by b z in
      either (λ c. Start by c) b started_motion
      (λ q. means-start by (motion a t) (subst (λ (c : ℕ). stopping c t ≡ false) q f) k) refl k
  step n (Abort by b) z k = either (λ c. Abort by c) b aborted_motion (λ q. means-abort by (motion a t) k) refl k
  step n (Finished b) z k = either (λ c. Finished c) b finished_motion (λ q. means-finished (motion a t) k) refl k
  step n (Stopped b) z k = either (λ c. Stopped c) b stopped_motion (λ q. means-stopped (motion a t) k) refl k

means : (n : ℕ) (h : List Event) (a : ℕ) → Means a (accepted_events n h) (motion a (accepted_events n h))
unfolding accepted_events motion is_moving is_halting
means n [] a = record { running = running_none a; stops = stopping-none a }
means n (e ∷ h) a =
    let t = accepted_events n h in
    ⊎_elim
    (λ (p : eqb (number n t e) 0 ≡ true).
    subst (λ (l : List Event). Means a l (motion a l)) (sym (cond-true (e ∷ t) t p)) (step a t n e (eqb-true _ 0 p) (means n h a)))
    (λ (p : eqb (number n t e) 0 ≡ false).
    subst (λ (l : List Event). Means a l (motion a l)) (sym (cond-false (e ∷ t) t p)) (means n h a))
    (which (eqb (number n t e) 0))

moves-exactly : (m : Motion) (R S : Type 0) → Holds (is_moving m) R → Holds (is_halting m) S → (is_unfinished m ≡ true) ↔ (R ⊎ S)
unfolding is_moving is_halting is_unfinished
moves-exactly resting R S r s = (λ e. absurd (false≢true e), λ o. ⊎_elim (λ x. absurd (r x)) (λ x. absurd (s x)) o)
moves-exactly moving R S r s = (λ e. inl r, λ o. refl)
moves-exactly halting R S r s = (λ e. inr s, λ o. refl)

-- ---- the same events after it

module _ (a : ℕ) (t t' : List Event) (o : LeaveAlike a t t') where
  since-alike : (since : List Event) → LeaveAlike a (since ++ t) (since ++ t')
  unfolding left motion
  since-alike [] = o
  since-alike (View view ∷ l) =
      let k = since-alike l in
      record { locks = λ ends stays. k.locks ends _; motion = k.motion }
  since-alike (Begin by b ∷ l) =
      let k = since-alike l in
      record { locks = λ ends stays. rw (k.locks 0 stays, k.locks (ends - 1) stays, k.locks ends stays); motion = k.motion }
  since-alike (End by b ∷ l) =
      let k = since-alike l in
      record { locks = λ ends stays. rw (k.locks (ends + 1) stays, k.locks ends stays); motion = k.motion }
  since-alike (Start by b ∷ l) = let k = since-alike l in record { locks = k.locks; motion = rw k.motion }
  since-alike (Abort by b ∷ l) = let k = since-alike l in record { locks = k.locks; motion = rw k.motion }
  since-alike (Finished b ∷ l) = let k = since-alike l in record { locks = k.locks; motion = rw k.motion }
  since-alike (Stopped b ∷ l) =
      let k = since-alike l in
      record { locks = λ ends stays. rw (k.motion, k.locks ends stays); motion = rw k.motion }

-- ---- after every history

pub motion-by-events : MotionByEvents
motion-by-events n h a =
    let t = accepted_events n h in
    let k = means n h a in
    let i = holds-exactly (stopping a t) k.stops in
    record {
      stops = i;
      moves = moves-exactly (motion a t) _ _ k.running k.stops;
      stop-ends = λ s since.
          (since-alike a (Stopped a ∷ t) [] (stop-ends a t (i.1 s)) since).locks 0 (λ by. true)
          ∙ ap (λ (l : List Event). standing a l) (append-nil since);
      stop-idle = λ s since.
          (since-alike a (Stopped a ∷ t) t (stop-idle a t (is_false _ (λ e. s (i.0 e)))) since).locks 0 (λ by. true);
    }

-- ---- what changes nothing

-- an axis that is put back as it was
put_back : (st : Locks) (a : ℕ) (y : Axis) (test : Bool) → (test ≡ true → y ≡ axis_at st a)
    → (cond test (put_of st a y) (refused_of st 19)).locks ≡ st
put_back st a y true e =
    ap (λ (x : Axis). with_axis st a x) (e refl)
    ∙ ap (λ (x : List Axis). locks st.n st.view x) (set-get_or st.axes (a - 1) free)
put_back st a y false e = refl

finished-same : (x : Axis) → x.moving && x.stopping ≡ x.moving → finished_of x ≡ x
unfolding finished_of
finished-same x e = ap (λ (p : Bool). axis x.holder x.depth p x.stopping) e

aborted-same : (x : Axis) → x.stopping || x.moving ≡ x.stopping → aborted_of x ≡ x
unfolding aborted_of
aborted-same x e = ap (λ (p : Bool). axis x.holder x.depth x.moving p) e

stopped-same : (x : Axis) → x.stopping ≡ false → stopped_of x ≡ x
unfolding stopped_of
stopped-same x e = cond-false free x e

and-on : (p q : Bool) → q ≡ true → p && q ≡ p
and-on true q e = e
and-on false q e = refl

and-off : (p q : Bool) → p ≡ false → p && q ≡ p
and-off p q e = rw e

or_off : (p q : Bool) → q ≡ false → p || q ≡ p
or_off true q e = refl
or_off false q e = e

module _ (n : ℕ) (h : List Event) (a : ℕ) where
  -- what the axis holds, where there is such an axis
  axis-moves : on_axis a ≡ true → (axis_at (locks_after n h) a).moving ≡ unfinished a (accepted_events n h)
  axis-moves p = let (l, u) = on-axis a p in ap (λ (x : Axis). x.moving) ((by-history n h).each a l u)

  axis-stops : on_axis a ≡ true → (axis_at (locks_after n h) a).stopping ≡ stopping a (accepted_events n h)
  axis-stops p = let (l, u) = on-axis a p in ap (λ (x : Axis). x.stopping) ((by-history n h).each a l u)

  admits-axis : (by : ℕ) → admits (locks_after n h) by a ≡ true → on_axis a ≡ true
  unfolding admits
  admits-axis by p = and_l (on_axis a) _ (and_l (on_axis a && leb by (locks_after n h).n) _ p)

  not-moving : (Unfinished a (accepted_events n h) → ⊥) → on_axis a ≡ true → (axis_at (locks_after n h) a).moving ≡ false
  not-moving f p = axis-moves p ∙ is_false _ (λ e. f ((motion-by-events n h a).moves.0 e))

  is-stopping : Stopping a (accepted_events n h) → on_axis a ≡ true → (axis_at (locks_after n h) a).stopping ≡ true
  is-stopping s p = axis-stops p ∙ (motion-by-events n h a).stops.1 s

  not-stopping : (Stopping a (accepted_events n h) → ⊥) → on_axis a ≡ true → (axis_at (locks_after n h) a).stopping ≡ false
  not-stopping f p = axis-stops p ∙ is_false _ (λ e. f ((motion-by-events n h a).stops.0 e))

  unchanged : Unchanged n h a
  unfolding locks_after event_of abort_of finished_by stopped_by
  unchanged =
      let x = axis_at (locks_after n h) a in
      record {
        finish-stopping = λ s. put_back (locks_after n h) a _ _ (λ p. finished-same x (and-on _ _ (is-stopping s p)));
        abort-nothing = λ f by. put_back (locks_after n h) a _ _ (λ p. aborted-same x (or_off _ _ (not-moving f (admits-axis by p))));
        finish-nothing = λ f. put_back (locks_after n h) a _ _ (λ p. finished-same x (and-off _ _ (not-moving f p)));
        stop-nothing = λ f. put_back (locks_after n h) a _ _ (λ p. stopped-same x (not-stopping f p));
      }

pub changes-nothing : ChangesNothing
changes-nothing n h a = unchanged n h a
