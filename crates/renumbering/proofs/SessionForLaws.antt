-- A session renumbered, round by round: reads, states, health vectors and words.
use Prim.Native.Nat.{ℕ, zero, suc, ◌+◌, ◌-◌, ◌^◌, ◌≤◌, ◌<◌}
use mathlib.Core.Path.{◌≡◌, refl, sym, ap, ap₂, ◌∙◌, subst}
use mathlib.Core.Bool.{Bool, true, false, cond, ◌&&◌}
use native.Mathlib.Omega.{arith}
use lib.ListN.{get_or}
use borrow.Author.Tests.{lt-ltb}
use Rattle.words.specs.Word.{word_at}
use Rattle.words.specs.Bits.{bit, pack, full}
use Rattle.words.proofs.Truth.{cond-false}
use Rattle.words.proofs.BitLaws.{bit-pack, pack-ext, full-lt}
use Rattle.setup.specs.declared.Setup.{Setup}
use Rattle.rules.specs.Hearing.{bus_word, entry_of, reading_of, causes_of}
use Rattle.rules.specs.Causes.{cause_of}
use Rattle.rules.specs.Hearing.{Entry}
use Rattle.rules.specs.declared.Reading.{Reading}
use Rattle.changes.specs.Pending.{nothing}
use Rattle.changes.specs.declared.Pending.{Pending}
use Rattle.views.specs.ViewWord.{view_word, view_word_heard, view_entry, views_read, views_seen}
use Rattle.presence.specs.Opening.{fresh}
use Rattle.presence.specs.Step.{judgement_for, after_round}
use Rattle.presence.specs.declared.State.{State}
use Rattle.agreement.specs.Session.{Session, Accepted, Partitionable, size, u, bit_in, word_in, view_word_in, hears_view, read_round, read_bits, read_bytes, state, health, handed, sent, view_word_handed, view_word_sent, view_of}
use Rattle.agreement.specs.Existence.{NoChanges}
use Rattle.agreement.proofs.Steps.{small, held, reading, seen, causes, read_word, read_view, state-zero, health-suc}
use Rattle.agreement.proofs.Without.{round-without, plain}
use Rattle.agreement.proofs.Aligned.{sent_is, view-sent-is}
use Rattle.renumbering.specs.Renumbering.{Renumbering, vector_for, array_for, rows_for, word_for, view_words_for}
use Rattle.renumbering.specs.States.{setup_for, reading_for, state_for}
use Rattle.renumbering.specs.Sessions.{Renumbered}
use Rattle.renumbering.proofs.VectorForLaws.{vector-full, array-pack, rows-pack, vector-pack, zeros-for, no-scores-for}
use Rattle.renumbering.proofs.WordForLaws.{entry_for, entry-for, cause-for, bus-for, word-zero, view-word-for, view-heard-for, view-entry-for}
use Rattle.renumbering.proofs.ViewForLaws.{view-words-pack, view-words-none, fresh-views-for}
use Rattle.renumbering.proofs.StepForLaws.{round-for}
use Rattle.renumbering.proofs.ZeroLagLaws.{places-full}
use Rattle.renumbering.proofs.SetupForLaws.{straight, straight', places', marks-none, marks-none', accepted'}

-- ---- a read in which every entry is of this round

module _ (T : Session) (i k j : ℕ) (h : j < size T) (e : get_or T.setup.places i 0 ≡ size T) where
  read-now : read_round T i k j ≡ k
  unfolding read_round
  read-now = rw (lt-ltb j (get_or T.setup.places i 0) (omega arith))

  bit-now : bit (read_bits T i k) j ≡ bit_in T k i j
  bit-now = bit-pack (size T) _ j h ∙ ap (λ (m : ℕ). bit_in T m i j) read-now

  word-now : word_at (read_bytes T i k) j ≡ word_in T k i j
  word-now = read_word T i k j h ∙ ap (λ (m : ℕ). word_in T m i j) read-now

  view-now : Partitionable T → word_at (read_bytes T i k) (size T + j) ≡ view_word_in T k i j
  view-now p = read_view T p i k j h ∙ ap (λ (m : ℕ). view_word_in T m i j) read-now

-- ---- a session S, and T that is S renumbered but for its setup, which is only equal to the renumbered one

module _ (S : Session) (ok : Accepted S) (unoffered : NoChanges S) (zero-u : u S ≡ 0) (π : Renumbering (size S)) (T : Session) (r : Renumbered S π T) where
  abbrev n : ℕ
  n = size S

  abbrev pub S' : Session
  S' = record { setup = setup_for n π S.setup; cast = T.cast; controller = T.controller; word = T.word; view = T.view; offers = T.offers }

  few : n ≤ 16
  few = small S ok

  pub ok' : Accepted S'
  ok' = accepted' S.setup π ok zero-u

  -- ---- what arrives

  bit-for : (k i j : ℕ) → i < n → j < n → bit_in S' k (π.to i) (π.to j) ≡ bit_in S k i j
  unfolding bit_in
  bit-for zero i j hi hj = refl
  bit-for (suc k) i j hi hj = r.controller k i j hi hj

  pub word-for : (k i j : ℕ) → i < n → j < n → word_in S' k (π.to i) (π.to j) ≡ word_for n π (word_in S k i j)
  unfolding word_in
  word-for zero i j hi hj = sym (bus-for n π few (full n) (full-lt n) ∙ ap bus_word (vector-full n π))
  word-for (suc k) i j hi hj = r.word k i j hi hj

  -- where the setup is partitionable
  pub view-for : Partitionable S → (k i j : ℕ) → i < n → j < n → view_word_in S' k (π.to i) (π.to j) ≡ word_for n π (view_word_in S k i j)
  unfolding view_word_in
  view-for p zero i j hi hj = sym (view-word-for n π few (full n) (full-lt n) ∙ ap view_word (vector-full n π))
  view-for p (suc k) i j hi hj = r.view p k i j hi hj

  pub hears-view-for : Partitionable S → (k i j : ℕ) → i < n → j < n → hears_view S' k (π.to i) (π.to j) ≡ hears_view S k i j
  unfolding hears_view
  hears-view-for p k i j hi hj =
      ap₂ (λ (b : Bool) (w : ℕ). b && view_word_heard n w) (bit-for k i j hi hj) (view-for p k i j hi hj)
      ∙ ap (λ (b : Bool). bit_in S k i j && b) (view-heard-for n π few (view_word_in S k i j))

  pub cause-at : (k i j : ℕ) → i < n → j < n
      → cause_of n (bit_in S' k (π.to i) (π.to j)) (word_in S' k (π.to i) (π.to j)) ≡ cause_of n (bit_in S k i j) (word_in S k i j)
  cause-at k i j hi hj = ap₂ (cause_of n) (bit-for k i j hi hj) (word-for k i j hi hj) ∙ cause-for n π few (bit_in S k i j) (word_in S k i j)

  pub entry-at : (k i j : ℕ) → i < n → j < n
      → entry_of n (bit_in S' k (π.to i) (π.to j)) (word_in S' k (π.to i) (π.to j)) ≡ entry_for n π (entry_of n (bit_in S k i j) (word_in S k i j))
  entry-at k i j hi hj = ap₂ (entry_of n) (bit-for k i j hi hj) (word-for k i j hi hj) ∙ entry-for n π few (bit_in S k i j) (word_in S k i j)

  module _ (i : ℕ) (below : i < n) where
    pub below' : π.to i < n
    below' = π.to_below i below

    -- ---- what is read

    module _ (k j : ℕ) (h : j < n) where
      place : get_or S.setup.places i 0 ≡ n
      place = places-full n S.setup.places (straight S.setup π ok zero-u) i below

      place' : get_or S'.setup.places (π.to i) 0 ≡ n
      place' = places' S.setup π ok zero-u (π.to i) below'

      -- what f makes of an entry of the read, and of the entry in the read of S
      by-entry : {A : Type 0} (f : Bool → ℕ → A)
          → f (bit (read_bits S' (π.to i) k) j) (word_at (read_bytes S' (π.to i) k) j)
          ≡ f (bit_in S' k (π.to i) (π.to (π.from j))) (word_in S' k (π.to i) (π.to (π.from j)))
      by-entry f =
          ap₂ f (bit-now S' (π.to i) k j h place') (word-now S' (π.to i) k j h place')
          ∙ ap (λ (m : ℕ). f (bit_in S' k (π.to i) m) (word_in S' k (π.to i) m)) (sym (π.to-from j h))

      by-entry₀ : {A : Type 0} (f : Bool → ℕ → A) → f (bit (read_bits S i k) (π.from j)) (word_at (read_bytes S i k) (π.from j))
          ≡ f (bit_in S k i (π.from j)) (word_in S k i (π.from j))
      by-entry₀ f =
          let b = π.from-below j h in
          ap₂ f (bit-now S i k (π.from j) b place) (word-now S i k (π.from j) b place)

      read-entry : entry_of n (bit (read_bits S' (π.to i) k) j) (word_at (read_bytes S' (π.to i) k) j)
          ≡ entry_for n π (entry_of n (bit (read_bits S i k) (π.from j)) (word_at (read_bytes S i k) (π.from j)))
      read-entry =
          by-entry (entry_of n) ∙ entry-at k i (π.from j) below (π.from-below j h) ∙ ap (entry_for n π) (sym (by-entry₀ (entry_of n)))

      read-cause : cause_of n (bit (read_bits S' (π.to i) k) j) (word_at (read_bytes S' (π.to i) k) j)
          ≡ cause_of n (bit (read_bits S i k) (π.from j)) (word_at (read_bytes S i k) (π.from j))
      read-cause = by-entry (cause_of n) ∙ cause-at k i (π.from j) below (π.from-below j h) ∙ sym (by-entry₀ (cause_of n))

      read-view-entry : Partitionable S
          → view_entry n (bit (read_bits S' (π.to i) k) j) (word_at (read_bytes S' (π.to i) k) (n + j))
          ≡ word_for n π (view_entry n (bit (read_bits S i k) (π.from j)) (word_at (read_bytes S i k) (n + π.from j)))
      read-view-entry p =
          let b = π.from-below j h in
          ap₂ (view_entry n) (bit-now S' (π.to i) k j h place') (view-now S' (π.to i) k j h place' p)
          ∙ ap (λ (m : ℕ). view_entry n (bit_in S' k (π.to i) m) (view_word_in S' k (π.to i) m)) (sym (π.to-from j h))
          ∙ ap₂ (view_entry n) (bit-for k i (π.from j) below b) (view-for p k i (π.from j) below b)
          ∙ view-entry-for n π few (bit_in S k i (π.from j)) (view_word_in S k i (π.from j))
          ∙ ap (word_for n π) (sym (ap₂ (view_entry n) (bit-now S i k (π.from j) b place) (view-now S i k (π.from j) b place p)))

    abbrev entry_in : ℕ → ℕ → Entry
    entry_in k j = entry_of n (bit (read_bits S i k) j) (word_at (read_bytes S i k) j)

    reading-for : (k : ℕ) → reading S' (π.to i) k ≡ reading_for n π (reading S i k)
    unfolding reading_of
    reading-for k = λ t. record { heard = hears t; rows = rows t }
      where
        hears : pack n (λ j. (entry_of n (bit (read_bits S' (π.to i) k) j) (word_at (read_bytes S' (π.to i) k) j)).heard)
            ≡ vector_for n π (pack n (λ j. (entry_in k j).heard))
        hears = pack-ext n _ _ (λ j h. ap (λ (e : Entry). e.heard) (read-entry k j h)) ∙ sym (vector-pack n π (λ j. (entry_in k j).heard))

        rows : (reading S' (π.to i) k).rows ≡ rows_for n π (reading S i k).rows
        rows = rows-pack n π few (λ j. (entry_in k j).row) _ (λ j h. ap (λ (e : Entry). e.row) (read-entry k j h))

    pub causes-for : (k : ℕ) → causes S' (π.to i) k ≡ array_for n π (causes S i k)
    unfolding causes_of
    causes-for k = array-pack n π few _ _ (read-cause k)

    seen-for : (k : ℕ) → seen S' (π.to i) k ≡ view_words_for n π (seen S i k)
    unfolding views_seen views_read
    seen-for k = go S.setup.partitionable refl
      where
        go : (b : Bool) → S.setup.partitionable ≡ b
            → views_seen b n (read_bytes S' (π.to i) k) (read_bits S' (π.to i) k) ≡ view_words_for n π (views_seen b n (read_bytes S i k) (read_bits S i k))
        go true p = view-words-pack n π few _ _ (λ j h. read-view-entry k j h p)
        go false p = view-words-none n π few

    -- ---- what a module makes of it

    -- a state with the setup of the session and nothing pending: the state after a round, and its health vector
    abbrev SameStep : ℕ → State → Type 0
    SameStep k st =
        (after_round (state_for n π st) (reading_for n π (reading S i k)) (view_words_for n π (seen S i k)) ≡ state_for n π (after_round st (reading S i k) (seen S i k)))
        × ((judgement_for (state_for n π st) (reading_for n π (reading S i k))).health ≡ vector_for n π (judgement_for st (reading S i k)).health)

    same_step : (k : ℕ) (st : State) → (st.setup ≡ S.setup) × (st.pending ≡ nothing) → SameStep k st
    same_step k st (e, p) =
        subst (λ (x : State). SameStep k x) (λ t. with (sym e t) (sym p t))
        (round-for S.setup π few (straight S.setup π ok zero-u) (straight' S.setup π ok zero-u) st.own st.counters st.previous
        st.latest st.earlier st.views (reading S i k) (seen S i k))
      where
        with : Setup → Pending → State
        with s c =
            record { setup = s; own = st.own; counters = st.counters; previous = st.previous; latest = st.latest; earlier = st.earlier; pending = c; views = st.views }

    fresh-for : fresh S'.setup (π.to i + 1) ≡ state_for n π (fresh S.setup (i + 1))
    unfolding fresh nothing
    fresh-for =
        let e : i ≡ i + 1 - 1 = omega arith in
        let f = sym (vector-full n π) in
        let z = zeros-for n π few in
        λ t. record {
          setup = S'.setup;
          own = π.to (e t) + 1;
          counters = record { view = f t; penalty = z t; reward = z t; score = no-scores-for n π few t; returns = z t };
          previous = record { heard = f t; rows = rows-pack n π few (λ j. full n) (λ j. full n) (λ j h. f) t };
          latest = f t;
          earlier = f t;
          pending = record { left = 0; p = 0; r = 0; criticality = z t };
          views = fresh-views-for n π few S.setup.partitionable t;
        }

    pub state-for : (k : ℕ) → state S' (π.to i) k ≡ state_for n π (state S i k)
    state-for zero = state-zero S' ok' (π.to i) below' ∙ fresh-for ∙ ap (state_for n π) (sym (state-zero S ok i below))
    state-for (suc k) =
        round-without S' r.no-changes ok' (π.to i) below' k
        ∙ (λ t. after_round (state-for k t) (reading-for (suc k) t) (seen-for (suc k) t))
        ∙ (same_step (suc k) (state S i k) (plain S unoffered ok i below k)).0
        ∙ ap (state_for n π) (sym (round-without S unoffered ok i below k))

    pub health-for : (k : ℕ) → health S' (π.to i) k ≡ vector_for n π (health S i k)
    unfolding health
    health-for zero = sym (vector-full n π)
    health-for (suc k) =
        health-suc S' ok' (π.to i) below' k
        ∙ ap₂ (λ (st : State) (r : Reading). (judgement_for st r).health) (state-for k) (reading-for (suc k))
        ∙ (same_step (suc k) (state S i k) (plain S unoffered ok i below k)).1
        ∙ ap (vector_for n π) (sym (health-suc S ok i below k))

    -- ---- what it sends

    pub sent-for : (k : ℕ) → sent S' (π.to i) (suc k) ≡ word_for n π (sent S i (suc k))
    sent-for k =
        let h = held S ok i below k in
        sent_is S' ok' (π.to i) below' k
        ∙ ap (λ (st : State). bus_word st.latest) (state-for k)
        ∙ sym (bus-for n π few (state S i k).latest (subst (λ (m : ℕ). (state S i k).latest < 2 ^ m) h.size_is h.fits.latest))
        ∙ ap (word_for n π) (sym (sent_is S ok i below k))

    -- without a send mark a word is sent in the round after that in which it is handed out
    sent-next : (Q : Session) (l k : ℕ) → bit Q.setup.marks l ≡ false → sent Q l (suc k) ≡ handed Q l k
    unfolding sent
    sent-next Q l k f =
        let e : suc k - 1 ≡ k = omega arith in
        cond-false _ _ f ∙ ap (handed Q l) e

    pub handed-for : (k : ℕ) → handed S' (π.to i) k ≡ word_for n π (handed S i k)
    handed-for k =
        sym (sent-next S' (π.to i) k (marks-none' S.setup π ok zero-u (π.to i) below'))
        ∙ sent-for k ∙ ap (word_for n π) (sent-next S i k (marks-none S.setup π ok zero-u i below))

    -- the same of view words, which are 0 where the setup is not partitionable

    pub view-sent-for : (k : ℕ) → view_word_sent S' (π.to i) (suc k) ≡ word_for n π (view_word_sent S i (suc k))
    view-sent-for k =
        let h = held S ok i below k in
        let l : view_of S i k < 2 ^ n = subst (λ (m : ℕ). view_of S i k < 2 ^ m) h.size_is h.fits.view in
        view-sent-is S' ok' (π.to i) below' k
        ∙ ap (λ (st : State). cond S.setup.partitionable (view_word st.counters.view) 0) (state-for k)
        ∙ go l S.setup.partitionable
        ∙ ap (word_for n π) (sym (view-sent-is S ok i below k))
      where
        go : view_of S i k < 2 ^ n → (b : Bool) → cond b (view_word (vector_for n π (view_of S i k))) 0 ≡ word_for n π (cond b (view_word (view_of S i k)) 0)
        go l true = sym (view-word-for n π few (view_of S i k) l)
        go l false = sym (word-zero n π)

    view-sent-next : (Q : Session) (l k : ℕ) → bit Q.setup.marks l ≡ false → view_word_sent Q l (suc k) ≡ view_word_handed Q l k
    unfolding view_word_sent
    view-sent-next Q l k f =
        let e : suc k - 1 ≡ k = omega arith in
        cond-false _ _ f ∙ ap (view_word_handed Q l) e

    pub view-handed-for : (k : ℕ) → view_word_handed S' (π.to i) k ≡ word_for n π (view_word_handed S i k)
    view-handed-for k =
        sym (view-sent-next S' (π.to i) k (marks-none' S.setup π ok zero-u (π.to i) below'))
        ∙ view-sent-for k ∙ ap (word_for n π) (view-sent-next S i k (marks-none S.setup π ok zero-u i below))
