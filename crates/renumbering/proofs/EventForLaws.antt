-- What the events of a renumbered script do in each round: the word from sender j to receiver i, and its view word, have the fate that they had before
-- the renumbering.
-- It goes by which events count (script/specs/Effect.antt), without playing.
use Prim.Native.Nat.{ℕ, zero, suc, ◌+◌, ◌-◌, ◌/◌, ◌≤◌, ◌<◌}
use mathlib.Core.Path.{◌≡◌, refl, sym, ap, ap₂, ◌∙◌, subst}
use mathlib.Core.Logic.{◌⊎◌, inl, inr, ⊎_elim}
use mathlib.Core.Bool.{Bool, true, false, cond, not, ◌&&◌}
use mathlib.Core.List.{List}
use native.Mathlib.Omega.{arith}
use native.Mathlib.Nat.{eq-or-lt_of_le}
use lib.Dec.{eqb, leb}
use lib.ListN.{length}
use borrow.Author.Tests.{eqb-true, leb-true, leb-false}
use Rattle.words.specs.Word.{word_at}
use Rattle.words.specs.Bits.{bit}
use Rattle.words.proofs.Truth.{which, clash, and_l, and_r}
use Rattle.setup.specs.Setup.{size_in}
use Rattle.script.specs.Words.{is_partitionable, kind_of, sender_in, receivers_in, rounds_in, told_words, due_after, is_play}
use Rattle.script.specs.Check.{check_script}
use Rattle.script.specs.Rounds.{rounds_of}
use Rattle.script.specs.Effect.{fate_in, told_in, told_view_in, after_cast, due_at, told_at, play_at, rounds_before, Counts, Effect}
use Rattle.script.proofs.ScanLaws.{event-sender}
use Rattle.script.proofs.CastLaws.{events-count}
use Rattle.script.proofs.EffectLaws.{told-next, told-second}
use Rattle.renumbering.specs.Renumbering.{Renumbering, word_for}
use Rattle.renumbering.specs.Scripts.{script_for}
use Rattle.renumbering.proofs.VectorForLaws.{vector-bit}
use Rattle.renumbering.proofs.ScriptWordLaws.{sender-below, event-sends, event-receives}
use Rattle.renumbering.proofs.ScriptForLaws.{few, count', partitionable', events-at'}
use Rattle.renumbering.proofs.LastEventLaws.{Last, last-or-none, over-fate}
use Rattle.renumbering.proofs.ScanForLaws.{ToldWord, PlayWord, EventWord, sort-at, told-end, rounds'}

module _ (s : List ℕ) (ok : (check_script s).number ≡ 0) (π : Renumbering (size_in (word_at s 0))) where
  abbrev n : ℕ
  n = size_in (word_at s 0)

  abbrev count : ℕ
  count = length s / 4

  abbrev s' : List ℕ
  s' = script_for n π s

  after' : after_cast s' ≡ after_cast s
  after' = events-at' s ok π

  -- the kind of a word that is no told word
  kind' : (w : ℕ) → after_cast s ≤ w → w < count → told_at s w ≡ false → kind_of (word_at s' w) ≡ kind_of (word_at s w)
  kind' w l h f = go (sort-at s ok π w l h)
    where
      go : ToldWord s ok π w ⊎ (PlayWord s ok π w ⊎ EventWord s ok π w) → kind_of (word_at s' w) ≡ kind_of (word_at s w)
      go (inl q) = clash (told_at s w) q.told f
      go (inr (inl q)) = ap kind_of q.is
      go (inr (inr q)) = q.same_kind

  -- the same where word w comes after the cast and no told word is due at it; elsewhere its kind does not matter
  kind-when : (w : ℕ) → w < count → leb (after_cast s) w ≡ true → eqb (due_at s w) 0 ≡ true → kind_of (word_at s' w) ≡ kind_of (word_at s w)
  kind-when w h p q = kind' w (leb-true (after_cast s) w p) h (ap not q)

  due' : (w : ℕ) → w ≤ count → due_at s' w ≡ due_at s w
  unfolding due_at due_after
  due' zero h = refl
  due' (suc w) h =
      (λ t. cond (leb (after' t) w)
      (cond (eqb (due' w (omega arith) t) 0) (cond (eqb (kind_of (word_at s' w)) 8) (told_words (partitionable' s ok π t)) 0) (due' w (omega arith) t - 1)) 0)
      ∙ go (leb (after_cast s) w) (eqb (due_at s w) 0) (kind-when w (omega arith))
    where
      due : Bool → Bool → ℕ → ℕ
      due a z kind = cond a (cond z (cond (eqb kind 8) (told_words (is_partitionable s)) 0) (due_at s w - 1)) 0

      go : (a z : Bool) → (a ≡ true → z ≡ true → kind_of (word_at s' w) ≡ kind_of (word_at s w)) → due a z (kind_of (word_at s' w)) ≡ due a z (kind_of (word_at s w))
      go true true e = ap (due true true) (e refl refl)
      go true false e = refl
      go false z e = refl

  told' : (w : ℕ) → w ≤ count → told_at s' w ≡ told_at s w
  told' w h = ap (λ (d : ℕ). not (eqb d 0)) (due' w h)

  play' : (w : ℕ) → w < count → play_at s' w ≡ play_at s w
  unfolding play_at is_play
  play' w h =
      (λ t. leb (after' t) w && (eqb (due' w (omega arith) t) 0 && eqb (kind_of (word_at s' w)) 9))
      ∙ go (leb (after_cast s) w) (eqb (due_at s w) 0) (kind-when w h)
    where
      go : (a z : Bool) → (a ≡ true → z ≡ true → kind_of (word_at s' w) ≡ kind_of (word_at s w))
          → a && (z && eqb (kind_of (word_at s' w)) 9) ≡ a && (z && eqb (kind_of (word_at s w)) 9)
      go true true e = ap (λ (k : ℕ). eqb k 9) (e refl refl)
      go true false e = refl
      go false z e = refl

  play-word : (w : ℕ) → w < count → play_at s w ≡ true → word_at s' w ≡ word_at s w
  unfolding play_at is_play
  play-word w h t =
      let l = leb-true (after_cast s) w (and_l (leb (after_cast s) w) _ t) in
      let a = and_r (leb (after_cast s) w) _ t in
      go (ap not (and_l (eqb (due_at s w) 0) _ a)) (and_r (eqb (due_at s w) 0) _ a) (sort-at s ok π w l h)
    where
      go : told_at s w ≡ false → eqb (kind_of (word_at s w)) 9 ≡ true → ToldWord s ok π w ⊎ (PlayWord s ok π w ⊎ EventWord s ok π w)
          → word_at s' w ≡ word_at s w
      go f k (inl q) = clash (told_at s w) q.told f
      go f k (inr (inl q)) = q.is
      go f k (inr (inr q)) = clash (eqb (kind_of (word_at s w)) 9) k q.kind

  before' : (w : ℕ) → w ≤ count → rounds_before s' w ≡ rounds_before s w
  unfolding rounds_before
  before' zero h = refl
  before' (suc w) h =
      ap₂ (λ (a : ℕ) (p : Bool). a + cond p (rounds_in (word_at s' w)) 0) (before' w (omega arith)) (play' w (omega arith))
      ∙ ap (λ (x : ℕ). rounds_before s w + x) (go (play_at s w) refl)
    where
      go : (p : Bool) → play_at s w ≡ p → cond p (rounds_in (word_at s' w)) 0 ≡ cond p (rounds_in (word_at s w)) 0
      go true e = ap rounds_in (play-word w (omega arith) e)
      go false e = refl

  -- ---- which events count

  module _ (k i j : ℕ) (hi : i < n) (hj : j < n) where
    sends : (w : ℕ) → EventWord s ok π w → sender_in (word_at s w) ≡ j + 1 → sender_in (word_at s' w) ≡ π.to j + 1
    sends w q e =
        let f : sender_in (word_at s w) - 1 ≡ j = omega arith in
        ap sender_in q.is ∙ event-sends n π (few s ok π) (word_at s w) q.fits ∙ ap (λ (m : ℕ). π.to m + 1) f

    sent : (w : ℕ) → EventWord s ok π w → sender_in (word_at s' w) ≡ π.to j + 1 → sender_in (word_at s w) ≡ j + 1
    sent w q e =
        let m = sender_in (word_at s w) - 1 in
        let f = sym (ap sender_in q.is ∙ event-sends n π (few s ok π) (word_at s w) q.fits) ∙ e in
        let g : π.to m ≡ π.to j = omega arith in
        let l = sender-below n π (few s ok π) (word_at s w) q.fits in
        let r : m ≡ j = sym (π.from-to m l) ∙ ap π.from g ∙ π.from-to j hj in
        omega (arith, (event-sender n (word_at s w) q.fits).0)

    receives : (w : ℕ) → EventWord s ok π w → bit (receivers_in (word_at s' w)) (π.to i) ≡ bit (receivers_in (word_at s w)) i
    receives w q =
        ap (λ (v : ℕ). bit v (π.to i)) (ap receivers_in q.is ∙ event-receives n π (few s ok π) (word_at s w) q.fits)
        ∙ vector-bit n π (receivers_in (word_at s w)) (π.to i) (π.to_below i hi) ∙ ap (bit (receivers_in (word_at s w))) (π.from-to i hi)

    -- a loss or a lie that is no told word is an event
    is-event : (w : ℕ) → after_cast s ≤ w → w < count → told_at s w ≡ false → (kind_of (word_at s' w) ≡ 7) ⊎ (kind_of (word_at s' w) ≡ 8)
        → EventWord s ok π w
    is-event w l h f e = go (sort-at s ok π w l h)
      where
        nine : kind_of (word_at s' w) ≡ 9 → ⊥
        nine z = ⊎_elim (λ (a : kind_of (word_at s' w) ≡ 7). omega arith) (λ (a : kind_of (word_at s' w) ≡ 8). omega arith) e

        go : ToldWord s ok π w ⊎ (PlayWord s ok π w ⊎ EventWord s ok π w) → EventWord s ok π w
        go (inl q) = clash (told_at s w) q.told f
        go (inr (inl q)) = absurd (nine (ap kind_of q.is ∙ eqb-true (kind_of (word_at s w)) 9 q.kind))
        go (inr (inr q)) = q

    counts-to : (w : ℕ) → w < count → Counts s k i j w → Counts s' k (π.to i) (π.to j) w
    counts-to w h c =
        let e = kind' w c.after h c.plain in
        let kind = ⊎_elim (λ (a : kind_of (word_at s w) ≡ 7). inl (e ∙ a)) (λ (a : kind_of (word_at s w) ≡ 8). inr (e ∙ a)) c.kind in
        let q = is-event w c.after h c.plain kind in
        record {
          after = rw after' c.after;
          plain = told' w (omega arith) ∙ c.plain;
          kind = kind;
          sender = sends w q c.sender;
          receiver = receives w q ∙ c.receiver;
          next = c.next ∙ ap (λ (x : ℕ). x + 1) (sym (before' w (omega arith)));
        }

    counts-from : (w : ℕ) → w < count → Counts s' k (π.to i) (π.to j) w → Counts s k i j w
    counts-from w h c =
        let l : after_cast s ≤ w = rw after' at c.after in
        let f = sym (told' w (omega arith)) ∙ c.plain in
        let q = is-event w l h f c.kind in
        let e = q.same_kind in
        record {
          after = l;
          plain = f;
          kind = ⊎_elim (λ (a : kind_of (word_at s' w) ≡ 7). inl (sym e ∙ a)) (λ (a : kind_of (word_at s' w) ≡ 8). inr (sym e ∙ a)) c.kind;
          sender = sent w q c.sender;
          receiver = sym (receives w q) ∙ c.receiver;
          next = c.next ∙ ap (λ (x : ℕ). x + 1) (before' w (omega arith));
        }

    -- ---- the fate of a word

    pub record Same : Type 0 where
      pub fate : fate_in s' k (π.to i) (π.to j) ≡ fate_in s k i j
      pub told : fate_in s k i j ≡ 8 → told_in s' k (π.to i) (π.to j) ≡ word_for n π (told_in s k i j)
      pub told-view : is_partitionable s ≡ true → fate_in s k i j ≡ 8 → told_view_in s' k (π.to i) (π.to j) ≡ word_for n π (told_view_in s k i j)

    -- a told word is there, and renumbered
    told-word : (w : ℕ) → after_cast s ≤ w → w ≤ count → told_at s w ≡ true → (w < count) × (word_at s' w ≡ word_for n π (word_at s w))
    told-word w l h t =
        ⊎_elim (λ (z : w ≡ count). clash (told_at s count) (ap (told_at s) (sym z) ∙ t) (told-end s ok π))
        (λ (z : w < count). (z, go (sort-at s ok π w l z)))
        (eq-or-lt_of_le h)
      where
        go : ToldWord s ok π w ⊎ (PlayWord s ok π w ⊎ EventWord s ok π w) → word_at s' w ≡ word_for n π (word_at s w)
        go (inl q) = q.is
        go (inr (inl q)) = clash (told_at s w) t q.plain
        go (inr (inr q)) = clash (told_at s w) t q.plain

    -- the word after a lie is its told word, and where the setup is partitionable the next one its told view word
    module _ (w : ℕ) (h : w < count) (c : Counts s k i j w) (e : kind_of (word_at s w) ≡ 8) where
      first-told : (w + 1 < count) × (word_at s' (w + 1) ≡ word_for n π (word_at s (w + 1)))
      first-told = let l = c.after in told-word (w + 1) (omega arith) (omega arith) (told-next s w c.after c.plain e)

      second-told : is_partitionable s ≡ true → word_at s' (w + 2) ≡ word_for n π (word_at s (w + 2))
      second-told p =
          let l = c.after in
          let b = first-told.0 in
          (told-word (w + 2) (omega arith) (omega arith) (told-second s w c.after c.plain e ∙ p)).1

    module _ (ok' : (check_script s').number ≡ 0) where
      abbrev effect : k ≤ rounds_of s → Effect s k i j count (fate_in s k i j) (told_in s k i j) (told_view_in s k i j)
      effect h = let m = few s ok π in (events-count s ok).events k h i j (omega arith) (omega arith)

      abbrev Effect' : ℕ → Type 0
      Effect' c =
          Effect s' k (π.to i) (π.to j) c (fate_in s' k (π.to i) (π.to j)) (told_in s' k (π.to i) (π.to j)) (told_view_in s' k (π.to i) (π.to j))

      effect' : k ≤ rounds_of s → Effect' count
      effect' h =
          let m = few s ok π in
          let a = π.to_below i hi in
          let b = π.to_below j hj in
          subst Effect' (count' s ok π)
          ((events-count s' ok').events k (rw (rounds' s ok π) h) (π.to i) (π.to j) (omega arith) (omega arith))

      by_last : k ≤ rounds_of s → Last s k i j count → Same
      by_last h l =
          let w = l.word in
          let (x, y) = (effect h).last w l.below l.counts l.none-later in
          let (x', y') = (effect' h).last w l.below (counts-to w l.below l.counts) (λ v a b c. l.none-later v a b (counts-from v b c)) in
          let e = kind' w l.counts.after l.below l.counts.plain in
          record {
            fate = x' ∙ e ∙ sym x;
            told = λ z.
                let eight = sym x ∙ z in
                (y' (e ∙ eight)).word ∙ (first-told w l.below l.counts eight).1 ∙ ap (word_for n π) (sym (y eight).word);
            told-view = λ p z.
                let eight = sym x ∙ z in
                (y' (e ∙ eight)).view-word (partitionable' s ok π ∙ p) ∙ second-told w l.below l.counts eight p
                ∙ ap (word_for n π) (sym ((y eight).view-word p));
          }

      -- no event decides
      by-fate : fate_in s k i j ≡ 0 → fate_in s' k (π.to i) (π.to j) ≡ 0 → Same
      by-fate x x' = record { fate = x' ∙ sym x; told = λ z. absurd (omega arith); told-view = λ p z. absurd (omega arith) }

      by-none : k ≤ rounds_of s → ((w : ℕ) → w < count → Counts s k i j w → ⊥) → Same
      by-none h o =
          let x = (effect h).as-sent o in
          let x' = (effect' h).as-sent (λ w b c. o w b (counts-from w b c)) in
          by-fate x x'

      by_end : rounds_of s < k → Same
      by_end h =
          let m = few s ok π in
          let a = π.to_below i hi in
          let b = π.to_below j hj in
          let x = over-fate s ok k i j h (omega arith) (omega arith) in
          let x' = over-fate s' ok' k (π.to i) (π.to j) (rw (rounds' s ok π) h) (omega arith) (omega arith) in
          by-fate x x'

      pub fate-for : Same
      fate-for =
          ⊎_elim
          (λ (t : leb k (rounds_of s) ≡ true).
          let h = leb-true k (rounds_of s) t in
          ⊎_elim (by_last h) (by-none h) (last-or-none s k i j count))
          (λ (f : leb k (rounds_of s) ≡ false). by_end (leb-false k (rounds_of s) f))
          (which (leb k (rounds_of s)))
