-- The last event of a script that counts in a round for the word from a sender to a receiver; and that a script that is over has no events.
use Prim.Native.Nat.{ℕ, zero, suc, ◌+◌, ◌-◌, ◌*◌, ◌/◌, ◌<◌}
use mathlib.Core.Path.{◌≡◌, refl, sym, ap, ◌∙◌, subst}
use mathlib.Core.Logic.{◌⊎◌, inl, inr, ⊎_elim}
use mathlib.Core.Bool.{Bool, true, false, cond, not, ◌&&◌, ◌||◌}
use mathlib.Core.List.{List}
use native.Mathlib.Omega.{arith}
use native.Mathlib.Nat.{eq-or-lt_of_le, le_of_suc-le-suc}
use lib.Dec.{eqb, leb}
use lib.ListN.{get_or, length, get_or-replicate}
use borrow.Author.Tests.{eqb-true, eq-eqb, leb-true, le-leb, not-true}
use Rattle.words.specs.Word.{word_at}
use Rattle.words.specs.Bits.{bit}
use Rattle.words.proofs.Truth.{which, clash, and_l, and_r, and-true, or_l, or_r, or_cases}
use Rattle.script.specs.Words.{is_partitionable, kind_of, sender_in, receivers_in, rounds_in, due_after, is_play}
use Rattle.script.specs.Check.{check_script}
use Rattle.script.specs.Events.{none}
use Rattle.script.specs.Cursor.{events_after, gather, advanced, cursor_at, start}
use Rattle.script.specs.Rounds.{rounds_of}
use Rattle.script.specs.Effect.{fate_in, after_cast, told_at, rounds_before, Counts}
use Rattle.script.specs.declared.Events.{Events}
use Rattle.script.specs.declared.Cursor.{Cursor}
use Rattle.script.proofs.CastLaws.{plays-all}

-- ---- the last event that counts, if there is one

module _ (s : List ℕ) (k i j : ℕ) where
  -- event w counts, and none of those after it and before word m does
  pub record Last (m : ℕ) : Type 0 where
    pub word : ℕ
    pub below : word < m
    pub counts : Counts s k i j word
    pub none-later : (v : ℕ) → word < v → v < m → Counts s k i j v → ⊥

  abbrev pub None : ℕ → Type 0
  None m = (w : ℕ) → w < m → Counts s k i j w → ⊥

  abbrev test : ℕ → Bool
  test w =
      leb (after_cast s) w && (not (told_at s w) && ((eqb (kind_of (word_at s w)) 7 || eqb (kind_of (word_at s w)) 8)
      && (eqb (sender_in (word_at s w)) (j + 1) && (bit (receivers_in (word_at s w)) i && eqb k (rounds_before s w + 1)))))

  seven-or-eight : (x : ℕ) → eqb x 7 || eqb x 8 ≡ true → (x ≡ 7) ⊎ (x ≡ 8)
  seven-or-eight x t =
      ⊎_elim (λ (a : eqb x 7 ≡ true). inl (eqb-true x 7 a)) (λ (a : eqb x 8 ≡ true). inr (eqb-true x 8 a)) (or_cases (eqb x 7) (eqb x 8) t)

  eight-or-seven : (x : ℕ) → (x ≡ 7) ⊎ (x ≡ 8) → eqb x 7 || eqb x 8 ≡ true
  eight-or-seven x (inl e) = or_l (eqb x 7) (eqb x 8) (eq-eqb x 7 e)
  eight-or-seven x (inr e) = or_r (eqb x 7) (eqb x 8) (eq-eqb x 8 e)

  test-counts : (w : ℕ) → test w ≡ true → Counts s k i j w
  test-counts w t =
      let a = and_r (leb (after_cast s) w) _ t in
      let b = and_r (not (told_at s w)) _ a in
      let c = and_r (eqb (kind_of (word_at s w)) 7 || eqb (kind_of (word_at s w)) 8) _ b in
      let d = and_r (eqb (sender_in (word_at s w)) (j + 1)) _ c in
      record {
        after = leb-true (after_cast s) w (and_l (leb (after_cast s) w) _ t);
        plain = not-true (told_at s w) (and_l (not (told_at s w)) _ a);
        kind = seven-or-eight (kind_of (word_at s w)) (and_l (eqb (kind_of (word_at s w)) 7 || eqb (kind_of (word_at s w)) 8) _ b);
        sender = eqb-true (sender_in (word_at s w)) (j + 1) (and_l (eqb (sender_in (word_at s w)) (j + 1)) _ c);
        receiver = and_l (bit (receivers_in (word_at s w)) i) _ d;
        next = eqb-true k (rounds_before s w + 1) (and_r (bit (receivers_in (word_at s w)) i) _ d);
      }

  counts-test : (w : ℕ) → Counts s k i j w → test w ≡ true
  counts-test w c =
      and-true _ _ (le-leb (after_cast s) w c.after)
      (and-true _ _ (ap not c.plain)
      (and-true _ _ (eight-or-seven (kind_of (word_at s w)) c.kind)
      (and-true _ _ (eq-eqb (sender_in (word_at s w)) (j + 1) c.sender) (and-true _ _ c.receiver (eq-eqb k (rounds_before s w + 1) c.next)))))

  pub last-or-none : (m : ℕ) → Last m ⊎ None m
  last-or-none zero = inr (λ w h c. absurd (omega arith))
  last-or-none (suc m) =
      ⊎_elim
      (λ (t : test m ≡ true).
      inl (record { word = m; below = omega arith; counts = test-counts m t; none-later = λ v a b c. absurd (omega arith) }))
      (λ (f : test m ≡ false).
      let here : (v : ℕ) → v ≡ m → Counts s k i j v → ⊥ = λ v e c. clash (test m) (counts-test m (subst (Counts s k i j) e c)) f in
      ⊎_elim
      (λ (l : Last m).
      inl (record {
        word = l.word;
        below = omega (arith, l.below);
        counts = l.counts;
        none-later = λ v a b c. ⊎_elim (λ (e : v ≡ m). here v e c) (λ (h : v < m). l.none-later v a h c) (eq-or-lt_of_le (le_of_suc-le-suc b));
      }))
      (λ (o : None m).
      inr (λ v b c. ⊎_elim (λ (e : v ≡ m). here v e c) (λ (h : v < m). o v h c) (eq-or-lt_of_le (le_of_suc-le-suc b))))
      (last-or-none m))
      (which (test m))

-- ---- a script that is over has no events

gather_none : (s : List ℕ) (words at due : ℕ) (e : Events) → (gather s words at due e).over ≡ true → (gather s words at due e).events ≡ none
unfolding gather
gather_none s zero at due e t = refl
gather_none s (suc words) at due e t =
    go (is_play due (word_at s at)) t (gather_none s words (at + 1) (due_after (is_partitionable s) due (word_at s at)) (events_after s due at e))
  where
    later : Cursor
    later = gather s words (at + 1) (due_after (is_partitionable s) due (word_at s at)) (events_after s due at e)

    next : Bool → Cursor
    next b = cond b (record { at = at + 1; left = rounds_in (word_at s at) - 1; over = false; events = e }) later

    go : (b : Bool) → (next b).over ≡ true → (later.over ≡ true → later.events ≡ none) → (next b).events ≡ none
    go true q r = clash true refl (sym q)
    go false q r = r q

advanced-none : (s : List ℕ) (c : Cursor) → (advanced s c).over ≡ true → (advanced s c).events ≡ none
unfolding advanced
advanced-none s c t = go (eqb c.left 0) t
  where
    next : Bool → Cursor
    next b = cond b (gather s (length s / 4 - c.at) c.at 0 none) (record { at = c.at; left = c.left - 1; over = false; events = none })

    go : (b : Bool) → (next b).over ≡ true → (next b).events ≡ none
    go true q = gather_none s (length s / 4 - c.at) c.at 0 none q
    go false q = refl

cursor-none : (s : List ℕ) (k : ℕ) → (cursor_at s k).over ≡ true → (cursor_at s k).events ≡ none
unfolding cursor_at start
cursor-none s zero t = refl
cursor-none s (suc k) t = advanced-none s (cursor_at s k) t

pub over-fate : (s : List ℕ) → (check_script s).number ≡ 0 → (k i j : ℕ) → rounds_of s < k → i < 16 → j < 16 → fate_in s k i j ≡ 0
unfolding none
over-fate s ok k i j h a b =
    ap (λ (e : Events). get_or e.fate (i * 16 + j) 0) (cursor-none s k ((plays-all s ok).over k h))
    ∙ get_or-replicate {A = ℕ} 256 (i * 16 + j) 0 0 (omega arith)
