-- An accepted run script: only the cast lies, the rounds played are those that its plays count, and events count for the next round played.
use mathlib.Core.Path.{◌≡◌, refl, sym, ap, ◌∙◌}
use mathlib.Core.Logic.{inl, ⊎_elim}
use mathlib.Core.Bool.{true, false}
use mathlib.Core.List.{List, [], ◌∷◌}
use Prim.Native.Nat.{ℕ, zero, suc, ◌+◌, ◌-◌, ◌/◌, ◌≤◌, ◌<◌}
use native.Mathlib.Omega.{arith}
use native.Mathlib.Numerals.{add-one}
use lib.Dec.{eqb, leb, ltb}
use lib.ListN.{length}
use borrow.Author.Tests.{eqb-true, eqb-false, ltb-true, leb-true, leb-false}
use Rattle.words.specs.Word.{word_at}
use Rattle.words.specs.Verdict.{single, outcome}
use Rattle.words.proofs.Truth.{which}
use Rattle.words.proofs.VerdictLaws.{Passed, numbered, and-then-pass, single-pass, tests-pass}
use Rattle.setup.specs.Setup.{size_in}
use Rattle.setup.specs.Check.{check_front}
use Rattle.setup.proofs.SetupCheckLaws.{FrontFits, front-pass}
use Rattle.script.specs.declared.Scan.{Scan}
use Rattle.script.specs.declared.Cursor.{Cursor}
use Rattle.script.specs.Words.{cast_at, events_at, is_partitionable, most_bytes, cast_ok}
use Rattle.script.specs.Check.{unscanned, scanned, scan, check_cast, check_play, check_script}
use Rattle.script.specs.Cursor.{start, advanced, cursor_at}
use Rattle.script.specs.Told.{cast_of, OnlyCast}
use Rattle.script.specs.Rounds.{rounds_of, PlaysAll}
use Rattle.script.specs.Effect.{rounds_before, EventsCount}
use Rattle.script.proofs.EventLaws.{told_none}
use Rattle.script.proofs.AheadLaws.{Ahead, ahead-next, ahead-ends, ahead-total, ahead-most}
use Rattle.script.proofs.EffectLaws.{Linked, linked-next, due-first, rounds-first, rounds-mono, tells_none}
use Rattle.script.proofs.GatherLaws.{next-round, next-play}
use Rattle.script.proofs.PlaceLaws.{Running, Placed, placed-round, placed-play}

-- what the check of a script has asked
pub record ScriptFits (s : List ℕ) : Type 0 where
  pub bytes : length s ≤ most_bytes
  pub front : FrontFits s
  pub cast : cast_at s < length s / 4
  pub cast_ok : cast_ok (size_in (word_at s 0)) (word_at s (cast_at s)) ≡ true
  pub words : (scan s (size_in (word_at s 0)) (cast_of s) (length s / 4 - events_at s) (events_at s) unscanned).number ≡ 0

pub script-pass : (s : List ℕ) → (check_script s).number ≡ 0 → ScriptFits s
unfolding check_script check_play check_cast Passed numbered
script-pass s e =
    let n = size_in (word_at s 0) in
    let (a, f) = and-then-pass (outcome (single (leb (length s) most_bytes) 16 0)) _ e in
    let (b, g) = and-then-pass (check_front s) (check_play s n) f in
    let (c, h) = and-then-pass (check_cast s n) _ g in
    let (k, (w, _)) =
    tests-pass (single (ltb (cast_at s) (length s / 4)) 14 (length s / 4) ∷ single (cast_ok n (word_at s (cast_at s))) 12 (cast_at s) ∷ []) refl c
    in
    record {
      bytes = leb-true (length s) most_bytes (single-pass (leb (length s) most_bytes) 16 0 (omega arith) a);
      front = front-pass s b;
      cast = ltb-true (cast_at s) (length s / 4) (k 0 (omega arith));
      cast_ok = w 0 (omega arith);
      words = h;
    }

module _ (s : List ℕ) (ok : (check_script s).number ≡ 0) where
  abbrev n : ℕ
  n = size_in (word_at s 0)

  -- all that comes after the cast
  behind-cast : Ahead s n (cast_of s) (length s / 4) (rounds_of s) (events_at s) unscanned
  unfolding rounds_of
  behind-cast =
      let f = script-pass s ok in
      record { within = omega (arith, f.cast); taken = f.words; last = refl }

  abbrev At : ℕ → Cursor → Type 0
  At k c = Placed s (cast_of s) (rounds_of s) k c

  placed-next : (k : ℕ) (c : Cursor) → At k c → At (k + 1) (advanced s c)
  placed-next k c p =
      ⊎_elim
      (λ (t : eqb c.left 0 ≡ true).
      let z = eqb-true c.left 0 t in
      rw (sym (next-play s c refl z)) (placed-play s (cast_of s) (rounds_of s) k c p z))
      (λ (t : eqb c.left 0 ≡ false).
      let f = eqb-false c.left 0 t in
      rw (sym (next-round s c refl f)) (placed-round s (cast_of s) (rounds_of s) k c p f))
      (which (eqb c.left 0))

  first-linked : Linked s (events_at s) unscanned
  first-linked = record { after = omega arith; due = sym (due-first s); rounds = sym (rounds-first s (events_at s) (omega arith)) }

  placed : (k : ℕ) → At k (cursor_at s k)
  unfolding cursor_at start
  placed zero =
      record {
        scan = unscanned;
        due = refl;
        linked = first-linked;
        ahead = behind-cast;
        by-cast = told_none (cast_of s);
        time = inl
            (record {
              playing = refl;
              time = refl;
              past = λ w x l. absurd (omega arith);
              tells = tells_none s 0 (length s / 4) (λ w x l e. absurd (omega arith));
            });
      }
  placed (suc k) = rw (sym (add-one k)) (placed-next k (cursor_at s k) (placed k))

  so_far : (k : ℕ) → (placed k).scan.rounds ≤ rounds_of s
  so_far k =
      let p = placed k in
      let h = p.ahead.within in
      (ahead-total s n (cast_of s) (length s / 4) (rounds_of s) (length s / 4 - (cursor_at s k).at) (cursor_at s k).at p.scan (omega arith) p.ahead).0

  within : events_at s ≤ length s / 4
  within = behind-cast.within

  -- a round of the script
  running : (k : ℕ) → k ≤ rounds_of s → Running s (cast_of s) (rounds_of s) k (cursor_at s k) (placed k).scan
  running k l = ⊎_elim (λ t. t) (λ t. let h = t.time in absurd (omega arith)) (placed k).time

  -- the rounds before the last word's end
  all-rounds : (words at : ℕ) (sc : Scan) → at + words ≡ length s / 4 → Linked s at sc → Ahead s n (cast_of s) (length s / 4) (rounds_of s) at sc
      → rounds_before s (length s / 4) ≡ rounds_of s
  all-rounds zero at sc h l a =
      let e : at ≡ length s / 4 = omega arith in
      let (f, p, t) = ahead-ends s n (cast_of s) (length s / 4) (rounds_of s) sc (rw e at a) in
      ap (rounds_before s) (sym e) ∙ sym l.rounds ∙ t
  all-rounds (suc words) at sc h l a =
      let next = (ahead-next s n (cast_of s) (length s / 4) (rounds_of s) at sc (omega arith) a).1 in
      all-rounds words (at + 1) (scanned (is_partitionable s) sc (word_at s at)) (omega arith) (linked-next s at sc l) next

  rounds-are : rounds_before s (length s / 4) ≡ rounds_of s
  rounds-are =
      let h = within in
      all-rounds (length s / 4 - events_at s) (events_at s) unscanned (omega arith) first-linked behind-cast

pub only-cast : OnlyCast
only-cast s ok k = (placed s ok k).by-cast

pub plays-all : PlaysAll
plays-all s ok =
    let n = size_in (word_at s 0) in
    let h = within s ok in
    record {
      least = (ahead-total s n (cast_of s) (length s / 4) (rounds_of s) (length s / 4 - events_at s) (events_at s) unscanned (omega arith) (behind-cast s ok)).1;
      most = ahead-most s n (cast_of s) (length s / 4) (rounds_of s) (length s / 4 - events_at s) (events_at s) unscanned (omega arith) (behind-cast s ok) (omega arith);
      playing = λ k l. (running s ok k l).playing;
      over = λ k l.
          let m = so_far s ok k in
          ⊎_elim (λ t. let h = t.time in absurd (omega arith)) (λ t. t.over) (placed s ok k).time;
    }

pub events-count : EventsCount
events-count s ok =
    record {
      rounds = rounds-are s ok;
      events = λ k l i j a b. (running s ok k l).tells i j a b;
      first-only = λ w h t k l m i j a b.
          let o = rounds-mono s (w + 1) (length s / 4) (omega arith) in
          let q = rounds-are s ok in
          ((running s ok k (omega arith)).tells i j a b).as-sent
          (λ v x c.
          let e = c.next in
          ⊎_elim
          (λ (y : leb v w ≡ true).
          let u = rounds-mono s v w (leb-true v w y) in
          absurd (omega arith))
          (λ (y : leb v w ≡ false).
          let z : w < v = leb-false v w y in
          let u = rounds-mono s (w + 1) v (omega arith) in
          absurd (omega arith))
          (which (leb v w)));
    }
