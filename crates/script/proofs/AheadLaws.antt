-- What lies ahead of a place in an accepted run script: no word is refused, and the rounds add up to those of the whole.
use mathlib.Core.Path.{◌≡◌, refl, ap, ◌∙◌, sym}
use mathlib.Core.Logic.{◌⊎◌, inl, inr, ⊎_elim}
use mathlib.Core.Bool.{Bool, true, false, cond, not, ◌&&◌, ◌||◌}
use mathlib.Core.List.{List}
use Prim.Native.Nat.{ℕ, zero, suc, ◌+◌, ◌-◌, ◌≤◌, ◌<◌}
use native.Mathlib.Omega.{arith}
use native.Mathlib.Nat.{eq-or-lt_of_le}
use lib.Dec.{eqb, leb}
use borrow.Author.Tests.{eqb-true, eqb-false, ne_eqb, ltb-true}
use Rattle.words.specs.Word.{word_at}
use Rattle.words.specs.Bits.{bit}
use Rattle.words.proofs.Truth.{and_l, and_r, cond-true, cond-false}
use Rattle.words.specs.Verdict.{verdict, between}
use Rattle.words.proofs.VerdictLaws.{between_is, and-then-pass, single-pass}
use Rattle.script.specs.declared.Scan.{Scan}
use Rattle.script.specs.Words.{is_partitionable, most_rounds, kind_of, sender_in, rounds_in, event_ok, play_ok, told_words, due_after, is_play}
use Rattle.script.specs.Check.{play_refusal, event_refusal, word_refusal, scanned, finished, scan}
use Rattle.script.specs.Rounds.{last_scan}
use Rattle.script.proofs.ScanLaws.{play-rounds, taken-rounds, scan_step}

-- ---- a word that is taken

pub play-taken : (rounds w : ℕ) → play_refusal rounds w ≡ 0 → 1 ≤ rounds_in w
unfolding play_refusal
play-taken rounds w e = go (play_ok w) refl e
  where
    go : (p : Bool) → play_ok w ≡ p → ◌≡◌ {A = ℕ} (cond p (cond (leb (rounds + rounds_in w) most_rounds) 0 15) 12) 0 → 1 ≤ rounds_in w
    go true t q = (play-rounds w t).0
    go false t q = absurd (omega arith)

-- a loss, or a lie by a sender of the cast
pub event-taken : (n cast w : ℕ) → event_refusal n cast w ≡ 0 → (kind_of w ≡ 7) ⊎ ((kind_of w ≡ 8) × (bit cast (sender_in w - 1) ≡ true))
unfolding event_refusal
event-taken n cast w e = go (between 7 8 (kind_of w) && event_ok n w) (eqb (kind_of w) 7) (bit cast (sender_in w - 1)) refl refl refl e
  where
    go : (a b d : Bool) → between 7 8 (kind_of w) && event_ok n w ≡ a → eqb (kind_of w) 7 ≡ b → bit cast (sender_in w - 1) ≡ d
        → ◌≡◌ {A = ℕ} (cond a (cond (b || d) 0 13) 12) 0 → (kind_of w ≡ 7) ⊎ ((kind_of w ≡ 8) × (bit cast (sender_in w - 1) ≡ true))
    go true true d s t i q = inl (eqb-true (kind_of w) 7 t)
    go true false true s t i q =
        let f = eqb-false (kind_of w) 7 t in
        let h = between_is 7 8 (kind_of w) (and_l (between 7 8 (kind_of w)) _ s) in
        inr (omega arith, i)
    go true false false s t i q = absurd (omega arith)
    go false b d s t i q = absurd (omega arith)

-- ---- the scan behind a word; `pairs` is whether told words come in pairs

module _ (pairs : Bool) (sc : Scan) (w : ℕ) where
  pub scanned-told : eqb sc.due 0 ≡ false → scanned pairs sc w ≡ record { due = sc.due - 1; pending = true; rounds = sc.rounds }
  unfolding scanned is_play due_after
  scanned-told f = rw f

  pub scanned-play : eqb sc.due 0 ≡ true → eqb (kind_of w) 9 ≡ true
      → scanned pairs sc w ≡ record { due = 0; pending = false; rounds = sc.rounds + rounds_in w }
  unfolding scanned is_play due_after
  scanned-play z t =
      let k = eqb-true (kind_of w) 9 t in
      rw (z, t, ne_eqb (kind_of w) 8 (λ e. omega arith))

  pub scanned-event : eqb sc.due 0 ≡ true → eqb (kind_of w) 9 ≡ false
      → scanned pairs sc w ≡ record { due = cond (eqb (kind_of w) 8) (told_words pairs) 0; pending = true; rounds = sc.rounds }
  unfolding scanned is_play due_after
  scanned-event z f = rw (z, f)

  pub due-of : {x : Scan} → scanned pairs sc w ≡ x → (scanned pairs sc w).due ≡ x.due
  due-of y = ap (λ (x : Scan). x.due) y

  pub rounds-of : {x : Scan} → scanned pairs sc w ≡ x → (scanned pairs sc w).rounds ≡ x.rounds
  rounds-of y = ap (λ (x : Scan). x.rounds) y

  pub rounds-grow : sc.rounds ≤ (scanned pairs sc w).rounds
  unfolding scanned
  rounds-grow = go (is_play sc.due w)
    where
      go : (p : Bool) → sc.rounds ≤ cond p (sc.rounds + rounds_in w) sc.rounds
      go true = omega arith
      go false = omega arith

module _ (sc : Scan) (w n cast : ℕ) where
  pub refusal-told : eqb sc.due 0 ≡ false → word_refusal n cast sc w ≡ 0
  unfolding word_refusal
  refusal-told f = cond-false _ _ f

  pub refusal-play : eqb sc.due 0 ≡ true → eqb (kind_of w) 9 ≡ true → word_refusal n cast sc w ≡ play_refusal sc.rounds w
  unfolding word_refusal
  refusal-play z t = cond-true _ _ z ∙ cond-true _ _ t

  pub refusal-event : eqb sc.due 0 ≡ true → eqb (kind_of w) 9 ≡ false → word_refusal n cast sc w ≡ event_refusal n cast w
  unfolding word_refusal
  refusal-event z f = cond-true _ _ z ∙ cond-false _ _ f

pub finished-is : (sc : Scan) → finished sc ≡ true → (sc.due ≡ 0) × (0 < sc.rounds)
unfolding finished
finished-is sc t =
    let a = and_l (eqb sc.due 0 && not sc.pending) _ t in (
      eqb-true sc.due 0 (and_l (eqb sc.due 0) _ a),
      ltb-true 0 sc.rounds (and_r (eqb sc.due 0 && not sc.pending) _ t),
    )

-- ---- all that lies ahead

module _ (s : List ℕ) (n cast count total : ℕ) where
  pub record Ahead (at : ℕ) (sc : Scan) : Type 0 where
    pub within : at ≤ count
    pub taken : (scan s n cast (count - at) at sc).number ≡ 0
    pub last : (last_scan s (count - at) at sc).rounds ≡ total

  last_step : (at : ℕ) (sc : Scan) → at < count → last_scan s (count - at) at sc ≡ last_scan s (count - (at + 1)) (at + 1) (scanned (is_partitionable s) sc (word_at s at))
  unfolding last_scan
  last_step at sc h =
      let z : count - at ≡ suc (count - (at + 1)) = omega arith in
      rw z

  pub ahead-next : (at : ℕ) (sc : Scan) → at < count → Ahead at sc → (word_refusal n cast sc (word_at s at) ≡ 0) × Ahead (at + 1) (scanned (is_partitionable s) sc (word_at s at))
  ahead-next at sc h a =
      let (z, q) = and-then-pass (verdict (word_refusal n cast sc (word_at s at)) at) _ (rw (scan_step s n cast count at sc h) at a.taken) in (
        z,
        record { within = omega arith; taken = q; last = ap (λ (x : Scan). x.rounds) (sym (last_step at sc h)) ∙ a.last },
      )

  pub ahead-ends : (sc : Scan) → Ahead count sc → (sc.due ≡ 0) × (0 < sc.rounds) × (sc.rounds ≡ total)
  unfolding scan last_scan
  ahead-ends sc a =
      let z : count - count ≡ 0 = omega arith in
      let t = single-pass (finished sc) 14 count (omega arith) (rw z at a.taken) in
      let (f, p) = finished-is sc t in
      (f, p, rw z at a.last)

  -- where a told word is due, it is there
  pub ahead-due : (at : ℕ) (sc : Scan) → (sc.due ≡ 0 → ⊥) → Ahead at sc → at < count
  ahead-due at sc f a =
      ⊎_elim (λ (e : at ≡ count). absurd (f (ahead-ends sc (rw e at a)).0)) (λ (h : at < count). h) (eq-or-lt_of_le a.within)

  -- the rounds so far are some of all, of which there are at least 1
  pub ahead-total : (words at : ℕ) (sc : Scan) → at + words ≡ count → Ahead at sc → (sc.rounds ≤ total) × (0 < total)
  ahead-total zero at sc h a =
      let e : at ≡ count = omega arith in
      let (f, p, q) = ahead-ends sc (rw e at a) in
      (omega arith, omega arith)
  ahead-total (suc words) at sc h a =
      let l : at < count = omega arith in
      let (b, p) = ahead-total words (at + 1) (scanned (is_partitionable s) sc (word_at s at)) (omega arith) (ahead-next at sc l a).1 in
      let g = rounds-grow (is_partitionable s) sc (word_at s at) in
      (omega arith, p)

  pub ahead-most : (words at : ℕ) (sc : Scan) → at + words ≡ count → Ahead at sc → sc.rounds ≤ most_rounds → total ≤ most_rounds
  ahead-most zero at sc h a m =
      let e : at ≡ count = omega arith in
      let (f, p, q) = ahead-ends sc (rw e at a) in
      omega arith
  ahead-most (suc words) at sc h a m =
      let l : at < count = omega arith in
      let (z, b) = ahead-next at sc l a in
      ahead-most words (at + 1) (scanned (is_partitionable s) sc (word_at s at)) (omega arith) b (taken-rounds (is_partitionable s) n cast sc (word_at s at) z m)
