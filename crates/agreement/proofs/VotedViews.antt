-- The view words that a step of a session votes on: after alignment each is of round k - u, as it is heard there.
use Prim.Native.Nat.{ℕ, zero, suc, ◌-◌, ◌<◌}
use mathlib.Core.Path.{◌≡◌, sym, ap, ap₂, ◌∙◌}
use mathlib.Core.Bool.{Bool, true, ◌&&◌}
use mathlib.Core.List.{List}
use lib.ListN.{get_or}
use Rattle.words.specs.Bits.{full}
use Rattle.words.proofs.Truth.{cond-true}
use Rattle.words.proofs.BitLaws.{bit-pack, full-lt}
use Rattle.words.proofs.ArrayLaws.{array_at}
use Rattle.rules.specs.Lag.{skewed}
use Rattle.views.specs.ViewWord.{view_word, view_entry, views_read, views_seen}
use Rattle.views.specs.Adoption.{is_there}
use Rattle.views.specs.Views.{full_views, no_views, fresh_views, views_after}
use Rattle.views.specs.declared.Views.{Views}
use Rattle.views.proofs.ViewWordLaws.{view-heard, entry-says, views-at, aligned_at}
use Rattle.presence.specs.Opening.{fresh}
use Rattle.presence.specs.Step.{voted_views, views_for}
use Rattle.presence.specs.declared.State.{State}
use Rattle.agreement.specs.Session.{Session, Accepted, Partitionable, size, u, bit_in, view_word_in, hears_view, read_round, read_bits, read_bytes, state, view_of}
use Rattle.agreement.proofs.Steps.{seen, read_view, small, held, state-zero, views-suc}
use Rattle.agreement.proofs.Aligned.{read-zero, own-place, own-skew, own-size, one-round}

module _ (S : Session) (ok : Accepted S) (set : Partitionable S) (i : ℕ) (below : i < size S) where
  -- the view word of sender j in round k, as receiver i keeps it
  abbrev kept : ℕ → ℕ → ℕ
  kept k j = view_entry (size S) (bit_in S k i j) (view_word_in S k i j)

  -- ---- this read, and the one before

  seen-is : (k : ℕ) → seen S i k ≡ views_read (size S) (read_bytes S i k) (read_bits S i k)
  unfolding views_seen
  seen-is k = ap (λ (b : Bool). views_seen b (size S) (read_bytes S i k) (read_bits S i k)) set

  this-view : (k j : ℕ) → j < size S → get_or (seen S i k) j 0 ≡ kept (read_round S i k j) j
  this-view k j h =
      ap (λ (l : List ℕ). get_or l j 0) (seen-is k)
      ∙ views-at (size S) (read_bytes S i k) (read_bits S i k) j h (small S ok)
      ∙ ap₂ (view_entry (size S)) (bit-pack (size S) _ j h) (read_view S set i k j h)

  full-kept : view_entry (size S) true (view_word (full (size S))) ≡ view_word (full (size S))
  unfolding view_entry
  full-kept = cond-true (view_word (full (size S))) 0 (view-heard (size S) (full (size S)) (small S ok) (full-lt (size S)))

  -- at opening every view is full
  pub opened-views : (state S i 0).views ≡ full_views (size S)
  unfolding fresh fresh_views
  opened-views = ap (λ (st : State). st.views) (state-zero S ok i below) ∙ ap (λ (b : Bool). fresh_views b (size S)) set

  -- the view words that step k + 1 votes on
  abbrev pub voted : ℕ → List ℕ
  voted k = voted_views (state S i k) (seen S i (suc k))

  -- what a step makes of the views
  pub views_after_lem : (k : ℕ) → (state S i (suc k)).views ≡ views_after (size S) (state S i k).views (voted k) (seen S i (suc k)) (view_of S i k)
  unfolding views_for
  views_after_lem k =
      views-suc S ok i below k
      ∙ cond-true _ no_views ((held S ok i below k).partitionable-is ∙ set)
      ∙ ap (λ (n : ℕ). views_after n (state S i k).views (voted k) (seen S i (suc k)) (view_of S i k)) (own-size S ok i below k)

  last_view : (k j : ℕ) → j < size S → get_or (state S i k).views.words j 0 ≡ kept (read_round S i k j) j
  unfolding full_views views_after bit_in view_word_in
  last_view zero j h =
      ap (λ (v : Views). get_or v.words j 0) opened-views
      ∙ array_at (size S) (λ l. view_word (full (size S))) j h (small S ok)
      ∙ sym full-kept ∙ ap (λ (m : ℕ). kept m j) (sym (read-zero S ok i below j))
  last_view (suc k) j h = ap (λ (v : Views). get_or v.words j 0) (views_after_lem k) ∙ this-view (suc k) j h

  -- ---- after alignment each is of the round that the step adopts from

  voted-view : (k j : ℕ) → j < size S → get_or (voted k) j 0 ≡ kept (suc k - u S) j
  unfolding voted_views
  voted-view k j h =
      let e = own-size S ok i below k in
      let s = own-skew S ok i below k in
      let p = own-place S ok i below k in
      let a = aligned_at (size S) (state S i k).views.words (seen S i (suc k)) (skewed (size S) S.setup.places) (get_or S.setup.places i 0) j h (small S ok) in
      let o = one-round S ok i below k j h (λ m. kept m j) _ _ (last_view k j h) (this-view (suc k) j h) in
      cc

  -- so what is asked of the word there is asked of the view word of that round, where it is heard
  pub voted-says : (k j : ℕ) (p : ℕ → Bool) → j < size S
      → is_there (get_or (voted k) j 0) && p (get_or (voted k) j 0) ≡ hears_view S (suc k - u S) i j && p (view_word_in S (suc k - u S) i j)
  unfolding hears_view
  voted-says k j p h =
      ap (λ (w : ℕ). is_there w && p w) (voted-view k j h)
      ∙ entry-says (size S) (bit_in S (suc k - u S) i j) (view_word_in S (suc k - u S) i j) p
