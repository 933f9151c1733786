-- The place of every round of an accepted run script: what lies ahead of it is accepted, its events are those of the script that count for it,
-- and they tell words for the cast alone.
use mathlib.Core.Path.{◌≡◌, refl, ap, ◌∙◌, sym, subst}
use mathlib.Core.Logic.{◌⊎◌, inl, inr, ⊎_elim}
use mathlib.Core.Bool.{Bool, true, false, not}
use mathlib.Core.List.{List}
use Prim.Native.Nat.{ℕ, zero, suc, ◌+◌, ◌-◌, ◌/◌, ◌≤◌, ◌<◌}
use native.Mathlib.Omega.{arith}
use native.Mathlib.Nat.{eq-or-lt_of_le}
use lib.Dec.{eqb, ltb}
use lib.ListN.{length}
use borrow.Author.Tests.{eqb-true, eq-eqb, ne_eqb, ltb-true, ltb-false, lt-ltb}
use Rattle.words.specs.Word.{word_at}
use Rattle.words.specs.Bits.{bit}
use Rattle.words.proofs.Truth.{which, clash, and-false-l, cond-true, cond-false}
use Rattle.setup.specs.Setup.{size_in}
use Rattle.script.specs.declared.Scan.{Scan}
use Rattle.script.specs.declared.Events.{Events}
use Rattle.script.specs.declared.Cursor.{Cursor}
use Rattle.script.specs.Words.{is_partitionable, kind_of, sender_in, rounds_in, told_words, is_play, word_within}
use Rattle.script.specs.Check.{word_refusal, scanned}
use Rattle.script.specs.Events.{none}
use Rattle.script.specs.Cursor.{told_view_of, events_after, gather}
use Rattle.script.specs.Told.{ToldBy}
use Rattle.script.specs.Effect.{after_cast, told_at, rounds_before, Counts, LieTells}
use Rattle.script.proofs.EventLaws.{told_none, told_with}
use Rattle.script.proofs.AheadLaws.{Ahead, ahead-next, ahead-ends, ahead-due, play-taken, event-taken, scanned-told, scanned-play, scanned-event, due-of, rounds-of, refusal-play, refusal-event}
use Rattle.script.proofs.EffectLaws.{Linked, linked-next, told_is, play-kind, rounds-play, rounds-mono, Tells, tells_none, tells-past, tells-event}
use Rattle.script.proofs.GatherLaws.{gather-over, gather-step, events-told, events-loss, events-lie}

-- ---- one word, as `gather` takes it

module _ (s : List ℕ) (due at : ℕ) where
  abbrev word : ℕ
  word = word_at s at

  told-play : eqb due 0 ≡ false → is_play due word ≡ false
  unfolding is_play
  told-play f = and-false-l (eqb due 0) _ f

  plain-play : eqb due 0 ≡ true → is_play due word ≡ eqb (kind_of word) 9
  unfolding is_play
  plain-play z = rw z

within-is : (s : List ℕ) (i : ℕ) → i < length s / 4 → word_within s i ≡ word_at s i
within-is s i h = cond-true _ _ (lt-ltb i (length s / 4) h)

-- ---- the place of round k

module _ (s : List ℕ) (cast total : ℕ) where
  abbrev n : ℕ
  n = size_in (word_at s 0)

  abbrev count : ℕ
  count = length s / 4

  -- The rounds of the plays so far are k and those that are left. No word before the next counts for a round after k, and the events of round k
  -- are those of the whole script that count for it.
  pub record Running (k : ℕ) (c : Cursor) (sc : Scan) : Type 0 where
    pub playing : c.over ≡ false
    pub time : k + c.left ≡ sc.rounds
    pub past : (w : ℕ) → after_cast s ≤ w → w < c.at → rounds_before s w < k
    pub tells : Tells s k count c.events

  -- all rounds were played before round k
  pub record Done (k : ℕ) (c : Cursor) (sc : Scan) : Type 0 where
    pub over : c.over ≡ true
    pub ended : c.at ≡ count
    pub left : c.left ≡ 0
    pub all : sc.rounds ≡ total
    pub time : total < k

  -- `c` is the place of round k: the scan has come as far, and accepts what lies ahead
  pub record Placed (k : ℕ) (c : Cursor) : Type 0 where
    pub scan : Scan
    pub due : scan.due ≡ 0
    pub linked : Linked s c.at scan
    pub ahead : Ahead s n cast count total c.at scan
    pub by-cast : ToldBy cast c.events
    pub time : Running k c scan ⊎ Done k c scan

  -- ---- the words up to the next play

  -- what `gather` finds from `at` on, after r rounds; the first words are told words where some are due
  abbrev Found : ℕ → ℕ → Type 0
  Found r at = (e : Events) (sc : Scan) → sc.rounds ≡ r → Linked s at sc → Tells s (r + 1) at e → ToldBy cast e
      → Ahead s n cast count total at sc → Placed (r + 1) (gather s (count - at) at sc.due e)

  -- no word is left
  found-over : (k at : ℕ) (e : Events) (sc : Scan) → at ≡ count → total < k → Linked s at sc → Ahead s n cast count total at sc
      → Placed k (gather s (count - at) at sc.due e)
  found-over k at e sc h m l a =
      let (f, p, t) = ahead-ends s n cast count total sc (rw h at a) in
      rw (sym (gather-over s count at sc.due e (omega arith) refl))
      (record {
        scan = sc;
        due = f;
        linked = l;
        ahead = a;
        by-cast = told_none cast;
        time = inr (record { over = refl; ended = h; left = refl; all = t; time = m });
      })

  module _ (r at : ℕ) (e : Events) (sc : Scan) (q : sc.rounds ≡ r) (k : Linked s at sc) (o : Tells s (r + 1) at e) (b : ToldBy cast e)
      (a : Ahead s n cast count total at sc) where
    module _ (h : at < count) (again : Found r (at + 1)) where
      abbrev w : ℕ
      w = word_at s at

      abbrev pairs : Bool
      pairs = is_partitionable s

      zero-answer : word_refusal n cast sc w ≡ 0
      zero-answer = (ahead-next s n cast count total at sc h a).0

      next : Ahead s n cast count total (at + 1) (scanned pairs sc w)
      next = (ahead-next s n cast count total at sc h a).1

      linked : Linked s (at + 1) (scanned pairs sc w)
      linked = linked-next s at sc k

      this-round : r + 1 ≡ rounds_before s at + 1
      this-round =
          let z = k.rounds in
          omega arith

      -- no play: on behind this word
      on-behind : {e' : Events} → is_play sc.due w ≡ false → e' ≡ events_after s sc.due at e → (scanned pairs sc w).rounds ≡ r → Tells s (r + 1) (at + 1) e'
          → ToldBy cast e' → Placed (r + 1) (gather s (count - at) at sc.due e)
      unfolding scanned
      on-behind {e'} f v x y z =
          rw (gather-step s count at sc.due e h ∙ cond-false _ _ f ∙ ap (gather s (count - (at + 1)) (at + 1) (scanned pairs sc w).due) (sym v))
          (again e' (scanned pairs sc w) x linked y z next)

      -- a told word is no event
      told-silent : (v i j : ℕ) → eqb sc.due 0 ≡ false → v ≡ at → Counts s (r + 1) i j v → ⊥
      told-silent v i j f z d = clash (told_at s v) (ap (told_at s) z ∙ told_is s at sc k ∙ ap not f) d.plain

      found-told : eqb sc.due 0 ≡ false → Placed (r + 1) (gather s (count - at) at sc.due e)
      found-told f =
          on-behind (told-play s sc.due at f) (events-told s sc.due at e refl f) (rounds-of pairs sc w (scanned-told pairs sc w f) ∙ q)
          (tells-past s (r + 1) at (at + 1) e (omega arith) (λ v i j x x' d. told-silent v i j f (omega arith) d) o) b

      -- neither the play nor what comes after it is an event for its first round
      after-play : (v i j : ℕ) → kind_of w ≡ 9 → rounds_before s at < rounds_before s (at + 1) → at ≤ v → Counts s (r + 1) i j v → ⊥
      after-play v i j t m x d =
          let z = this-round in
          let y = d.next in
          ⊎_elim
          (λ (o : at ≡ v).
          let p : kind_of (word_at s v) ≡ 9 = ap (λ (u : ℕ). kind_of (word_at s u)) (sym o) ∙ t in
          ⊎_elim (λ (u : kind_of (word_at s v) ≡ 7). absurd (omega arith)) (λ (u : kind_of (word_at s v) ≡ 8). absurd (omega arith)) d.kind)
          (λ (o : at < v).
          let u = rounds-mono s (at + 1) v (omega arith) in
          absurd (omega arith))
          (eq-or-lt_of_le x)

      -- a play
      found-play : eqb sc.due 0 ≡ true → eqb (kind_of w) 9 ≡ true → Placed (r + 1) (gather s (count - at) at sc.due e)
      found-play z t =
          let y = scanned-play pairs sc w z t in
          let m = play-taken sc.rounds w (sym (refusal-play sc w n cast z t) ∙ zero-answer) in
          let v : (scanned pairs sc w).rounds ≡ sc.rounds + rounds_in w = rounds-of pairs sc w y in
          let later : rounds_before s at < rounds_before s (at + 1) =
          let x = rounds-play s at (play-kind s at sc k z ∙ t) in
          omega (arith, m)
          in
          rw (gather-step s count at sc.due e h ∙ cond-true _ _ (plain-play s sc.due at z ∙ t))
          (record {
            scan = scanned pairs sc w;
            due = due-of pairs sc w y;
            linked = linked;
            ahead = next;
            by-cast = b;
            time = inl (record {
              playing = refl;
              time = omega arith;
              past = λ v x l.
                  let m = rounds-mono s v at (omega arith) in
                  omega arith;
              tells = tells-past s (r + 1) at count e (omega arith) (λ v i j x x' d. after-play v i j (eqb-true (kind_of w) 9 t) later x d) o;
            });
          })

      -- the told words of a lie are there
      told-there : eqb sc.due 0 ≡ true → kind_of w ≡ 8 → LieTells s at (word_within s (at + 1)) (told_view_of s at)
      unfolding told_view_of
      told-there z l =
          let y = due-of pairs sc w (scanned-event pairs sc w z (ne_eqb (kind_of w) 9 (λ x. omega arith))) ∙ cond-true _ _ (eq-eqb (kind_of w) 8 l) in
          let h' = ahead-due s n cast count total (at + 1) (scanned pairs sc w) (λ x. some pairs (sym y ∙ x)) next in
          record {
            word = within-is s (at + 1) h';
            view-word = λ b. cond-true _ _ b ∙ within-is s (at + 2) (second b (y ∙ ap told_words b) h');
          }
        where
          some : (p : Bool) → told_words p ≡ 0 → ⊥
          some true x = omega arith
          some false x = omega arith

          second : pairs ≡ true → (scanned pairs sc w).due ≡ 2 → at + 1 < count → at + 2 < count
          second b y h' =
              let g : eqb (scanned pairs sc w).due 0 ≡ false = ap (λ (d : ℕ). eqb d 0) y in
              let y' = due-of pairs (scanned pairs sc w) (word_at s (at + 1)) (scanned-told pairs (scanned pairs sc w) (word_at s (at + 1)) g) in
              let a' = (ahead-next s n cast count total (at + 1) (scanned pairs sc w) h' next).1 in
              let l = ahead-due s n cast count total (at + 1 + 1) (scanned pairs (scanned pairs sc w) (word_at s (at + 1))) (λ x. omega arith) a' in
              omega arith

      -- a loss, or a lie with the told words that follow it
      found-event : eqb sc.due 0 ≡ true → eqb (kind_of w) 9 ≡ false → Placed (r + 1) (gather s (count - at) at sc.due e)
      found-event z t =
          let x = rounds-of pairs sc w (scanned-event pairs sc w z t) ∙ q in
          let p : told_at s at ≡ false = told_is s at sc k ∙ ap not z in
          let f = plain-play s sc.due at z ∙ t in
          ⊎_elim
          (λ (l : kind_of w ≡ 7).
          on-behind f (events-loss s sc.due at e refl z (eq-eqb _ 7 l) refl) x
          (tells-event s (r + 1) at 0 0 e k.after p (inl l) this-round (λ z. absurd (omega arith)) o)
          (told_with cast w 0 0 e b (λ z. absurd (omega arith))))
          (λ (l : (kind_of w ≡ 8) × (bit cast (sender_in w - 1) ≡ true)).
          on-behind f (events-lie s sc.due at e refl z (eq-eqb _ 8 l.0) refl refl refl) x
          (tells-event s (r + 1) at (word_within s (at + 1)) (told_view_of s at) e k.after p (inr l.0) this-round (λ _. told-there z l.0) o)
          (told_with cast w (word_within s (at + 1)) (told_view_of s at) e b (λ _. l.1)))
          (event-taken n cast w (sym (refusal-event sc w n cast z t) ∙ zero-answer))

      found_here : Placed (r + 1) (gather s (count - at) at sc.due e)
      found_here =
          ⊎_elim
          (λ (z : eqb sc.due 0 ≡ true). ⊎_elim (λ t. found-play z t) (λ t. found-event z t) (which (eqb (kind_of w) 9)))
          (λ (f : eqb sc.due 0 ≡ false). found-told f)
          (which (eqb sc.due 0))

  found : (words r at : ℕ) → at + words ≡ count → Found r at
  found zero r at h e sc q k o b a =
      let z : at ≡ count = omega arith in
      let (f, p, t) = ahead-ends s n cast count total sc (rw z at a) in
      found-over (r + 1) at e sc (omega arith) (omega arith) k a
  found (suc words) r at h e sc q k o b a = found_here r at e sc q k o b a (omega arith) (found words r (at + 1) (omega arith))

  -- ---- from round to round

  module _ (k : ℕ) (c : Cursor) (p : Placed k c) where
    -- one more round of the play
    pub placed-round : (c.left ≡ 0 → ⊥) → Placed (k + 1) (record { at = c.at; left = c.left - 1; over = false; events = none })
    placed-round f =
        record {
          scan = p.scan;
          due = p.due;
          linked = p.linked;
          ahead = p.ahead;
          by-cast = told_none cast;
          time = ⊎_elim (λ t. inl (goes_on_lem t)) (λ t. absurd (f t.left)) p.time;
        }
      where
        silent : Running k c p.scan → (w : ℕ) → after_cast s ≤ w → k + 1 ≡ rounds_before s w + 1 → ⊥
        silent t w x e =
            let q = t.time in
            let l = p.linked.rounds in
            ⊎_elim
            (λ (y : ltb w c.at ≡ true).
            let m = t.past w x (ltb-true w c.at y) in
            absurd (omega arith))
            (λ (y : ltb w c.at ≡ false).
            let m = rounds-mono s c.at w (ltb-false w c.at y) in
            f (omega arith))
            (which (ltb w c.at))

        goes_on_lem : Running k c p.scan → Running (k + 1) (record { at = c.at; left = c.left - 1; over = false; events = none }) p.scan
        goes_on_lem t =
            let q = t.time in
            record {
              playing = refl;
              time = omega arith;
              past = λ w x l.
                  let m = t.past w x l in
                  omega arith;
              tells = tells_none s (k + 1) count (λ w x l e. silent t w x e);
            }

    -- the play is over
    pub placed-play : c.left ≡ 0 → Placed (k + 1) (gather s (count - c.at) c.at 0 none)
    placed-play z =
        subst (λ (d : ℕ). Placed (k + 1) (gather s (count - c.at) c.at d none)) p.due
        (⊎_elim next-play (λ t. found-over (k + 1) c.at none p.scan t.ended (still t.time) p.linked p.ahead) p.time)
      where
        still : total < k → total < k + 1
        still h = omega arith

        next-play : Running k c p.scan → Placed (k + 1) (gather s (count - c.at) c.at p.scan.due none)
        next-play t =
            let h = p.ahead.within in
            let q = t.time in
            found (count - c.at) k c.at (omega arith) none p.scan (omega arith) p.linked
            (tells_none s (k + 1) c.at (λ w x l e. let m = t.past w x l in absurd (omega arith))) (told_none cast) p.ahead
