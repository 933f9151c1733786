-- What is pending, field by field: it has room in its words, a step counts it down, and a change that would be accepted fits.
use Rattle.std.proofs.Common.{ext_get_or}
use Rattle.std.proofs.lemmas.Slice.Eq.{slice_eq-Decides}
use Rattle.std.proofs.lemmas.Bool.Decides.{Decides-eqb}
use Rattle.std.proofs.lemmas.List.{get_or-take, length-take-le}
use lib.Pointwise.{pointwise}
use lib.ListN.{take}
use mathlib.Core.Path.{◌≡◌, refl, ap, sym, ◌∙◌, subst}
use mathlib.Core.Bool.{Bool, true, false, cond, not, ◌&&◌, beq}
use mathlib.Core.Logic.{⊎_elim}
use mathlib.Core.List.{List}
use Prim.Native.Nat.{ℕ, ◌-◌, ◌^◌, ◌<◌, ◌≤◌}
use native.Mathlib.Omega.{arith}
use native.Mathlib.Nat.{eq-zero-or-pos}
use lib.ListN.{get_or, length, replicate, length-replicate, get_or-replicate}
use lib.Dec.{eqb, leb, ltb}
use borrow.Author.Tests.{eqb-true, eq-eqb, eqb-false, leb-true, ltb-true, lt-ltb}
use Rattle.words.specs.Word.{word_at, kind_unit}
use Rattle.words.specs.Count.{all}
use Rattle.words.specs.Array.{bounded}
use Rattle.words.proofs.Truth.{and_l, and_r, and-true, iff-eq, clash, not-both, beq-eq, beq-refl, cond_both}
use Rattle.words.proofs.CountLaws.{all-at, all-intro}
use Rattle.words.proofs.ArrayLaws.{clear_from, clear_at, clear_of, array-length, bounded_at, bounded-clear, bounded_of}
use Rattle.setup.specs.Limits.{fades}
use Rattle.setup.specs.Setup.{place_unit}
use Rattle.setup.specs.declared.Setup.{Setup}
use Rattle.setup.specs.declared.Limits.{Limits}
use Rattle.setup.specs.declared.Limits.TheVariants.{Counts, Fading}
use Rattle.setup.proofs.BoundLaws.{counts-fit}
use Rattle.setup.proofs.SetupWords.{marks-small, places-bounded, criticality-bounded, roomy_of, place-small, criticality-small}
use Rattle.setup.proofs.SetupLaws.{SetupFits, fits-room}
use Rattle.changes.specs.Pending.{most_lead, nothing, penalty_limit_of, reward_limit_of, pending_of, renewed, counted_down, pending_roomy}
use Rattle.changes.specs.Frame.{same_frame}
use Rattle.changes.specs.Words.{pending_in}
use Rattle.changes.specs.declared.Pending.{Pending}

-- no limit and no criticality
abbrev pub Empty : Pending → Type 0
Empty c = (c.p ≡ 0) × (c.r ≡ 0) × (clear_from 0 c.criticality ≡ true)

-- ---- it has room in its words

pub record PendingSmall (n : ℕ) (c : Pending) : Type 0 where
  pub p : c.p < 2 ^ 28
  pub r : c.r < 2 ^ 28
  pub criticality : (j : ℕ) → j < n → get_or c.criticality j 0 < 2 ^ 17
  pub clear : clear_from n c.criticality ≡ true
  pub none : c.left ≡ 0 → Empty c

-- where nothing is pending
empty-small : (n : ℕ) (c : Pending) → n ≤ 16 → Empty c → PendingSmall n c
empty-small n c small (p, r, z) = record {
  p = omega arith;
  r = omega arith;
  criticality = λ j h. omega (arith, clear_at 0 c.criticality z j (omega arith) (omega arith));
  clear = clear_of n c.criticality (λ i h l. clear_at 0 c.criticality z i (omega arith) l);
  none = λ _. (p, r, z);
}

pub roomy-pending : (n : ℕ) (c : Pending) → n ≤ 16 → pending_roomy n c ≡ true → PendingSmall n c
unfolding pending_roomy
roomy-pending n c small e = go (eqb c.left 0) refl e
  where
    go : (b : Bool) → eqb c.left 0 ≡ b
        → (ltb c.p (cond b 1 kind_unit) && ltb c.r (cond b 1 kind_unit)) && bounded (cond b 0 n) (place_unit - 1) c.criticality ≡ true → PendingSmall n c
    go true z t =
        let l = and_l (ltb c.p 1 && ltb c.r 1) _ t in
        let p = ltb-true c.p 1 (and_l (ltb c.p 1) _ l) in
        let r = ltb-true c.r 1 (and_r (ltb c.p 1) _ l) in
        empty-small n c small (omega arith, omega arith, bounded-clear 0 (place_unit - 1) c.criticality (and_r (ltb c.p 1 && ltb c.r 1) _ t))
    go false z t =
        let l = and_l (ltb c.p kind_unit && ltb c.r kind_unit) _ t in
        let b = and_r (ltb c.p kind_unit && ltb c.r kind_unit) _ t in
        record {
          p = ltb-true c.p kind_unit (and_l (ltb c.p kind_unit) _ l);
          r = ltb-true c.r kind_unit (and_r (ltb c.p kind_unit) _ l);
          criticality = λ j h. omega (arith, bounded_at n (place_unit - 1) c.criticality b j h small);
          clear = bounded-clear n (place_unit - 1) c.criticality b;
          none = λ x. absurd (eqb-false c.left 0 z x);
        }

pub pending-roomy : (n : ℕ) (c : Pending) → PendingSmall n c → pending_roomy n c ≡ true
unfolding pending_roomy
pending-roomy n c f = go (eqb c.left 0) refl
  where
    go : (b : Bool) → eqb c.left 0 ≡ b
        → (ltb c.p (cond b 1 kind_unit) && ltb c.r (cond b 1 kind_unit)) && bounded (cond b 0 n) (place_unit - 1) c.criticality ≡ true
    go true z =
        let (p, r, k) = f.none (eqb-true c.left 0 z) in
        and-true (ltb c.p 1 && ltb c.r 1) _
        (and-true (ltb c.p 1) _ (lt-ltb c.p 1 (omega arith)) (lt-ltb c.r 1 (omega arith)))
        (bounded_of 0 (place_unit - 1) c.criticality (λ j h. absurd (omega arith)) k)
    go false z =
        and-true (ltb c.p kind_unit && ltb c.r kind_unit) _
        (and-true (ltb c.p kind_unit) _ (lt-ltb c.p kind_unit f.p) (lt-ltb c.r kind_unit f.r))
        (bounded_of n (place_unit - 1) c.criticality (λ j h. omega (arith, f.criticality j h)) f.clear)

-- ---- it may be pending beside the setup s

pub record PendingFits (s : Setup) (c : Pending) : Type 0 where
  pub most : c.left ≤ most_lead
  pub counting : 0 < c.left → fades s.limits ≡ false
  pub none : c.left ≡ 0 → Empty c
  pub some : 0 < c.left → SetupFits (renewed s c)

pub nothing-fits : (s : Setup) → PendingFits s nothing
unfolding nothing
nothing-fits s = record {
  most = omega arith;
  counting = λ pos. absurd (omega arith);
  none = λ z. (refl, refl, clear_of 0 (replicate 16 0) (λ i h l. get_or-replicate {A = ℕ} 16 i 0 0 l));
  some = λ pos. absurd (omega arith);
}

pub nothing-small : (n : ℕ) → n ≤ 16 → PendingSmall n nothing
unfolding nothing
nothing-small n small = empty-small n nothing small (refl, refl, clear_of 0 (replicate 16 0) (λ i h l. get_or-replicate {A = ℕ} 16 i 0 0 l))

-- one round less
pub down_fits : (s : Setup) (c : Pending) → PendingFits s c → PendingFits s (counted_down c)
unfolding counted_down
down_fits s c f = go (leb 2 c.left) refl
  where
    go : (b : Bool) → leb 2 c.left ≡ b
        → PendingFits s (cond b (record { left = c.left - 1; p = c.p; r = c.r; criticality = c.criticality }) nothing)
    go true t =
        let two : 2 ≤ c.left = leb-true 2 c.left t in
        record {
          most = omega (arith, f.most);
          counting = λ pos. f.counting (omega arith);
          none = λ z. absurd (omega arith);
          some = λ pos. f.some (omega arith);
        }
    go false e = nothing-fits s

-- it has room in its words
pub fits-small : (s : Setup) (c : Pending) → SetupFits s → PendingFits s c → PendingSmall s.n c
fits-small s c f g =
    ⊎_elim (λ (z : c.left ≡ 0). empty-small s.n c f.most (g.none z))
    (λ (pos : 0 < c.left).
    let new = g.some pos in
    record {
      p = omega (arith, new.limits.p-most);
      r = omega (arith, new.limits.r-most);
      criticality = criticality-small (renewed s c) (fits-room (renewed s c) new);
      clear = bounded-clear s.n 131071 c.criticality (criticality-bounded (renewed s c) new.roomy);
      none = λ z. absurd (omega arith);
    })
    (eq-zero-or-pos c.left)

-- ---- a change of the same frame

pub record SameFrame (s new : Setup) : Type 0 where
  pub counts : fades s.limits ≡ false
  pub counts-new : fades new.limits ≡ false
  pub size : s.n ≡ new.n
  pub q : s.q ≡ new.q
  pub partitionable : s.partitionable ≡ new.partitionable
  pub marks : s.marks ≡ new.marks
  pub places : (j : ℕ) → j < s.n → get_or s.places j 0 ≡ get_or new.places j 0

module _ (s new : Setup) where
  abbrev neither : Bool
  neither = not (fades s.limits) && not (fades new.limits)

  abbrev sizes : Bool
  sizes = eqb s.n new.n && eqb s.q new.q

  abbrev heads : Bool
  heads = sizes && beq s.partitionable new.partitionable

  abbrev places_same : ℕ → Bool
  places_same j = eqb (get_or s.places j 0) (get_or new.places j 0)

  pub frame_same : same_frame s new ≡ true → SameFrame s new
  unfolding same_frame
  frame_same e =
      let a = and_l neither _ e in
      let b = and_r neither _ e in
      let d = and_l heads _ b in
      let h = and_l sizes _ d in
      let t = and_r heads _ b in
      record {
        counts = not-both (fades s.limits) (and_l (not (fades s.limits)) _ a);
        counts-new = not-both (fades new.limits) (and_r (not (fades s.limits)) _ a);
        size = eqb-true s.n new.n (and_l (eqb s.n new.n) _ h);
        q = eqb-true s.q new.q (and_r (eqb s.n new.n) _ h);
        partitionable = beq-eq s.partitionable new.partitionable (and_r sizes _ d);
        marks = eqb-true s.marks new.marks (and_l (eqb s.marks new.marks) _ t);
        places = λ j l. eqb-true _ _ (all-at s.n places_same (and_r (eqb s.marks new.marks) _ t) j l);
      }

  pub same-frame : SameFrame s new → same_frame s new ≡ true
  unfolding same_frame
  same-frame f =
      and-true neither _ (and-true (not (fades s.limits)) _ (ap not f.counts) (ap not f.counts-new))
      (and-true heads _
      (and-true sizes _ (and-true (eqb s.n new.n) _ (eq-eqb _ _ f.size) (eq-eqb _ _ f.q)) (ap (beq s.partitionable) (sym f.partitionable) ∙ beq-refl s.partitionable))
      (and-true (eqb s.marks new.marks) _ (eq-eqb _ _ f.marks) (all-intro s.n places_same (λ j l. eq-eqb _ _ (f.places j l)))))

-- limits that do not fade are P and R
pub counts_of : (l : Limits) → fades l ≡ false → l ≡ Counts (penalty_limit_of l) (reward_limit_of l)
counts_of (Counts p r) e = refl
counts_of (Fading factor limit) e = clash true refl e

-- the new limits and criticalities stand in the old frame
pub frame-renewed : (s new : Setup) → SetupFits s → SetupFits new → same_frame s new ≡ true → (lead : ℕ) → SetupFits (renewed s (pending_of new lead))
unfolding pending_of
frame-renewed s new f g e lead =
    let h = frame_same s new e in
    let size : s.n ≡ new.n = h.size in
    record {
      least = f.least;
      most = f.most;
      q-most = f.q-most;
      limits = counts-fit g.limits (counts_of new.limits h.counts-new);
      each = λ j l. record {
        within = (f.each j l).within;
        least = (g.each j (omega arith)).least;
        most = (g.each j (omega arith)).most;
      };
      roomy =
          roomy_of (renewed s (record { left = lead; p = penalty_limit_of new.limits; r = reward_limit_of new.limits; criticality = new.criticality }))
          (marks-small s f.roomy) (bounded-clear s.n 31 s.places (places-bounded s f.roomy))
          (subst (λ (m : ℕ). clear_from m new.criticality ≡ true) (sym size)
          (bounded-clear new.n 131071 new.criticality (criticality-bounded new g.roomy)))
          (place-small s (fits-room s f)) (λ j l. criticality-small new (fits-room new g) j (omega arith));
      marks = f.marks;
    }

pub frame-fits : (s new : Setup) → SetupFits s → SetupFits new → same_frame s new ≡ true → (lead : ℕ) → 1 ≤ lead → lead ≤ 1000
    → PendingFits s (pending_of new lead)
unfolding pending_of
frame-fits s new f g e lead least most = record {
  most = most;
  counting = λ _. (frame_same s new e).counts;
  none = λ z. absurd (omega arith);
  some = λ _. frame-renewed s new f g e lead;
}

-- ---- its array has 16 entries

pub nothing-shaped : length nothing.criticality ≡ 16
unfolding nothing
nothing-shaped = length-replicate {A = ℕ} 16 0

pub of-shaped : (new : Setup) (lead : ℕ) → length new.criticality ≡ 16 → length (pending_of new lead).criticality ≡ 16
unfolding pending_of
of-shaped new lead e = e

pub down-shaped : (c : Pending) → length c.criticality ≡ 16 → length (counted_down c).criticality ≡ 16
unfolding counted_down
down-shaped c e = go (leb 2 c.left)
  where
    go : (b : Bool) → length (cond b (record { left = c.left - 1; p = c.p; r = c.r; criticality = c.criticality }) nothing).criticality ≡ 16
    go true = e
    go false = nothing-shaped

pub read-shaped : (x : List ℕ) (n at : ℕ) → length (pending_in x n at).criticality ≡ 16
unfolding pending_in
read-shaped x n at = cond_both (λ (c : Pending). length c.criticality ≡ 16) (eqb (word_at x at) 0) _ _ nothing-shaped (array-length n _)

-- ---- its tests, as the code joins them

pub roomy-by : {room many : ℕ} {b : Bool} (n : ℕ) (c : Pending) → room ≡ cond (eqb c.left 0) 1 kind_unit → many ≡ cond (eqb c.left 0) 0 n
    → b ≡ bounded many (place_unit - 1) c.criticality → (ltb c.p room && ltb c.r room) && b ≡ pending_roomy n c
unfolding pending_roomy
roomy-by n c e m h = rw (h, e, m)

pub frame-by : {old asked places : Bool} (s new : Setup) → old ≡ fades s.limits → asked ≡ fades new.limits
    → places ≡ all s.n (λ j. eqb (get_or s.places j 0) (get_or new.places j 0))
    → (not old && not asked) && (((eqb s.n new.n && eqb s.q new.q) && beq s.partitionable new.partitionable)
    && (eqb s.marks new.marks && places)) ≡ same_frame s new
unfolding same_frame
frame-by s new o a p =
    λ i.
    (not (o i) && not (a i))
    && (((eqb s.n new.n && eqb s.q new.q) && beq s.partitionable new.partitionable) && (eqb s.marks new.marks && p i))

-- two arrays are the same as far as n where the lists of their first n entries are
pub same-entries : {r : Bool} (n : ℕ) (a b : List ℕ) → n ≤ length a → n ≤ length b → r ≡ pointwise eqb (take n a) (take n b)
    → r ≡ all n (λ j. eqb (get_or a j 0) (get_or b j 0))
same-entries {r} n a b la lb e =
    let d = slice_eq-Decides Decides-eqb (take n a) (take n b) r e in
    iff-eq r _
    (λ t. all-intro n _ (λ j h. eq-eqb _ _ (sym (get_or-take n a j 0 h) ∙ ap (λ (l : List ℕ). get_or l j 0) (d.0 t) ∙ get_or-take n b j 0 h)))
    (λ t.
    let ka : length (take n a) ≡ n = length-take-le n a la in
    let kb : length (take n b) ≡ n = length-take-le n b lb in
    d.1
    (ext_get_or 0 (take n a) (take n b) (ka ∙ sym kb)
    (λ j h.
    let l : j < n = omega (arith, ka) in
    get_or-take n a j 0 l ∙ eqb-true _ _ (all-at n _ t j l) ∙ sym (get_or-take n b j 0 l))))
