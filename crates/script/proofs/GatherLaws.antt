-- The words up to the next play, one after another.
use Rattle.std.proofs.Common.{◌≡◌, ap, ap₂, ◌∙◌, sym, Bool, true, false, cond, ⊎_elim, List, length, ℕ, suc, ◌+◌, ◌-◌, ◌/◌, ◌≤◌, ◌<◌, max, arith, eqb, leb, eqb-true, eq-eqb, ne_eqb, leb-true}
use Rattle.std.proofs.lemmas.Bool.{leb-false}
use Rattle.words.specs.Word.{word_at}
use Rattle.words.proofs.Truth.{which, cond-true, cond-false}
use Rattle.script.specs.declared.Events.{Events}
use Rattle.script.specs.declared.Cursor.{Cursor}
use Rattle.script.specs.Words.{is_partitionable, kind_of, rounds_in, due_after, is_play, word_within}
use Rattle.script.specs.Events.{none, with_event}
use Rattle.script.specs.Cursor.{told_view_of, events_after, gather, advanced}

module _ (s : List ℕ) (count at due : ℕ) (events : Events) where
  pub gather-over : {e : Events} → count ≤ at → e ≡ none
      → ◌≡◌ {A = Cursor} (record { at = at; left = 0; over = true; events = e }) (gather s (count - at) at due events)
  unfolding gather
  gather-over h q =
      let z : count - at ≡ 0 = omega arith in
      rw (z, q)

  pub gather-step : at < count → gather s (count - at) at due events
      ≡ cond (is_play due (word_at s at)) (record { at = at + 1; left = rounds_in (word_at s at) - 1; over = false; events = events })
      (gather s (count - (at + 1)) (at + 1) (due_after (is_partitionable s) due (word_at s at)) (events_after s due at events))
  unfolding gather
  gather-step h =
      let z : count - at ≡ suc (count - (at + 1)) = omega arith in
      rw z

  -- `w` is the word at `at`, `play` whether it is a play
  module _ {w : ℕ} {play : Bool} (h : at < count) (e : w ≡ word_at s at) (r : play ≡ is_play due w) where
    same : is_play due (word_at s at) ≡ play
    same = sym (r ∙ ap (is_play due) e)

    pub gather-found : {left : ℕ} → play ≡ true → left ≡ rounds_in w - 1
        → ◌≡◌ {A = Cursor} (record { at = at + 1; left = left; over = false; events = events }) (gather s (count - at) at due events)
    gather-found t q =
        ap (λ (x : ℕ). record { at = at + 1; left = x; over = false; events = events }) (q ∙ ap (λ (x : ℕ). rounds_in x - 1) e)
        ∙ sym (gather-step h ∙ cond-true _ _ (same ∙ t))

    pub gather-next : {pairs : Bool} {due' : ℕ} {events' : Events} → play ≡ false → pairs ≡ is_partitionable s → due' ≡ due_after pairs due w
        → events' ≡ events_after s due at events → gather s (count - (at + 1)) (at + 1) due' events' ≡ gather s (count - at) at due events
    gather-next f p l q =
        ap₂ (gather s (count - (at + 1)) (at + 1)) (l ∙ ap₂ (λ (b : Bool) (x : ℕ). due_after b due x) p e) q
        ∙ sym (gather-step h ∙ cond-false _ _ (same ∙ f))

-- no play is left: the place is behind the last word, or where the search began
pub gather-ends : {m : ℕ} {e : Events} (s : List ℕ) (count from at due : ℕ) (events : Events) → count ≤ at → (from ≤ count → at ≤ count) → m ≡ max from count → e ≡ none
    → gather s (count - at) at due events ≡ gather s (count - from) from 0 none
    → ◌≡◌ {A = Cursor} (record { at = m; left = 0; over = true; events = e }) (gather s (count - from) from 0 none)
gather-ends {m} {e} s count from at due events h l q n i =
    ⊎_elim
    (λ (k : leb from count ≡ true).
    let b : m ≡ at = omega (arith, l (leb-true from count k), leb-true from count k) in
    rw b (gather-over s count at due events h n ∙ i))
    (λ (k : leb from count ≡ false).
    let b : m ≡ from = omega (arith, leb-false from count k) in
    rw b (gather-over s count from 0 none (omega (arith, leb-false from count k)) n))
    (which (leb from count))

-- ---- the events after a word w, which stands at `at`

module _ {w : ℕ} (s : List ℕ) (due at : ℕ) (events : Events) (e : w ≡ word_at s at) where
  -- a test of its kind is one of the kind of that word
  kind : {b : Bool} (k : ℕ) → eqb (kind_of w) k ≡ b → eqb (kind_of (word_at s at)) k ≡ b
  kind k i = ap (λ (x : ℕ). eqb (kind_of x) k) (sym e) ∙ i

  pub events-told : eqb due 0 ≡ false → events ≡ events_after s due at events
  unfolding events_after
  events-told f = sym (cond-false _ _ f)

  pub events-loss : {after : Events} → eqb due 0 ≡ true → eqb (kind_of w) 7 ≡ true → after ≡ with_event events w 0 0 → after ≡ events_after s due at events
  unfolding events_after
  events-loss z k q =
      q ∙ ap (λ (x : ℕ). with_event events x 0 0) e ∙ sym (cond-true _ _ z ∙ cond-true _ _ (kind 7 k))

  pub events-lie : {after : Events} {t v : ℕ} → eqb due 0 ≡ true → eqb (kind_of w) 8 ≡ true → t ≡ word_within s (at + 1) → v ≡ told_view_of s at
      → after ≡ with_event events w t v → after ≡ events_after s due at events
  unfolding events_after
  events-lie {after} {t} {v} z k x y q =
      let l = eqb-true (kind_of (word_at s at)) 8 (kind 8 k) in
      q ∙ ap (λ (a : ℕ). with_event events a t v) e ∙ ap₂ (with_event events (word_at s at)) x y
      ∙ sym (cond-true _ _ z ∙ cond-false _ _ (ne_eqb (kind_of (word_at s at)) 7 (λ o. omega (arith, l, o))) ∙ cond-true _ _ (kind 8 k))

  pub events-other : eqb due 0 ≡ true → eqb (kind_of w) 7 ≡ false → eqb (kind_of w) 8 ≡ false → events ≡ events_after s due at events
  unfolding events_after
  events-other z f g = sym (cond-true _ _ z ∙ cond-false _ _ (kind 7 f) ∙ cond-false _ _ (kind 8 g))

-- ---- from round to round

module _ (s : List ℕ) (c : Cursor) where
  pub next-round : {e : Events} → e ≡ none → (c.left ≡ 0 → ⊥)
      → ◌≡◌ {A = Cursor} (record { at = c.at; left = c.left - 1; over = false; events = e }) (advanced s c)
  unfolding advanced
  next-round q f =
      ap (λ (e : Events). record { at = c.at; left = c.left - 1; over = false; events = e }) q
      ∙ sym (cond-false _ _ (ne_eqb c.left 0 f))

  pub next-play : {d : Cursor} → d ≡ gather s (length s / 4 - c.at) c.at 0 none → c.left ≡ 0 → d ≡ advanced s c
  unfolding advanced
  next-play q z = q ∙ sym (cond-true _ _ (eq-eqb c.left 0 z))
