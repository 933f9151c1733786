-- One round of the bench is one round of the session.
use Prim.Native.Nat.{ℕ, suc, ◌+◌, ◌-◌, ◌*◌, ◌%◌, ◌^◌, ◌<◌}
use mathlib.Core.Path.{◌≡◌, refl, sym, ap, ap₂, ◌∙◌}
use mathlib.Core.Bool.{Bool, true, false, cond, not}
use mathlib.Core.Logic.{⊎_elim, ◌≢◌}
use mathlib.Core.List.{List, ◌++◌}
use native.Mathlib.Omega.{arith}
use native.Mathlib.Nat.{mod-eq_of_lt}
use lib.Dec.{eqb, ltb}
use lib.ListN.{get_or, length}
use borrow.Author.Tests.{eqb-true, eqb-false}
use Rattle.words.specs.Bits.{bit}
use Rattle.words.proofs.Truth.{which, cond-true, cond-false}
use Rattle.words.proofs.BitLaws.{bit-pack, pack-ext}
use Rattle.words.proofs.ArrayLaws.{array_at}
use Rattle.words.proofs.ByteLaws.{bytes-ext}
use Rattle.words.proofs.TableLaws.{updated-at}
use Rattle.rules.specs.Hearing.{bus_word, entry_of}
use Rattle.rules.proofs.ReceptionLaws.{below-kind}
use Rattle.views.specs.ViewWord.{view_word}
use Rattle.presence.specs.Opening.{blank}
use Rattle.presence.specs.Step.{step_of}
use Rattle.presence.specs.declared.State.{State}
use Rattle.presence.specs.Step.{Stepped}
use Rattle.script.specs.declared.Events.{Events}
use Rattle.agreement.specs.Fault.{senders, kept_over, limit}
use Rattle.agreement.specs.Session.{Session, Accepted, Partitionable, size, follows, bit_in, word_in, view_word_in, round, read_round, read_bits, read_bytes, answer_at, state, ready, health, sent, view_word_sent}
use Rattle.agreement.specs.Existence.{NoChanges}
use Rattle.agreement.proofs.FaultLaws.{SendersAlike, senders-alike, kept-alike}
use Rattle.agreement.proofs.Steps.{small, held}
use Rattle.agreement.proofs.Aligned.{sent_is, view-sent-is}
use Rattle.agreement.proofs.Without.{ready-without}
use Rattle.bus.specs.Bus.{word_to, view_to, round_of, arrived, bits_read}
use Rattle.bus.specs.Senders.{hearing_of, senders_in}
use Rattle.bus.proofs.ArrivalLaws.{word-arrives, view-arrives, read_is}
use Rattle.backplane.specs.Play.{state_at, sent_words, sent_views, step_at, stepped_states, answered_health}
use Rattle.backplane.specs.Session.{Carries, Hears}
use Rattle.bus.specs.declared.Bus.{Bus}
use Rattle.bus.specs.declared.Hearing.{Hearing}

-- what arrives: what is told where the fate is a lie, else what was sent
arrives-as : {w told handed : ℕ} (fate : ℕ) → (fate ≡ 8 → w ≡ told) → (fate ≢ 8 → w ≡ handed) → cond (eqb fate 8) told handed ≡ w
arrives-as fate lie plain =
    ⊎_elim
    (λ (y : eqb fate 8 ≡ true). cond-true _ _ y ∙ sym (lie (eqb-true fate 8 y)))
    (λ (y : eqb fate 8 ≡ false). cond-false _ _ y ∙ sym (plain (eqb-false fate 8 y)))
    (which (eqb fate 8))

-- a read with view words or without
read_alike : (b : Bool) {x x' y y' : List ℕ} → x ≡ x' → (b ≡ true → y ≡ y') → cond b (x ++ y) x ≡ cond b (x' ++ y') x'
read_alike true e f = ap₂ (λ (x y : List ℕ). x ++ y) e (f refl)
read_alike false e f = e

module _ (S : Session) (ok : Accepted S) where
  abbrev n : ℕ
  n = size S

  hears-as : (k : ℕ) (b : Bus) → Carries S k b → (i j : ℕ) → i < n → j < n → (round_of n b).hears i j ≡ (round S k).hears i j
  unfolding round_of
  hears-as k b c i j hi hj = ap₂ (λ (x : Bool) (y : ℕ). (entry_of n x y).heard) (c.bits i j hi hj) (c.words i j hi hj)

  word-as : (k : ℕ) (b : Bus) → Carries S k b → (i j : ℕ) → i < n → j < n → (round_of n b).word i j ≡ (round S k).word i j
  unfolding round_of
  word-as k b c = c.words

  pub hears-bus : (k : ℕ) (b : Bus) → Carries S k b → Hears S k (hearing_of n S.cast b)
  unfolding hearing_of
  hears-bus k b c =
      let a = senders-alike n (follows S) (round_of n b) (round S k) (hears-as k b c) (word-as k b c) in
      record { half-heard = λ j hj. bit-pack n _ j hj ∙ a.half j hj; is-heard = λ j hj. bit-pack n _ j hj ∙ a.heard j hj }

  -- ---- the limit

  alike : (k : ℕ) (h : Hearing) → Hears S k h → SendersAlike n (senders_in h) (senders n (follows S) (round S k))
  alike k h c = record { half = c.half-heard; heard = c.is-heard }

  pub limit-as : (k k' : ℕ) (h h' : Hearing) → Hears S k h → Hears S k' h' → (view : ℕ)
      → kept_over n (follows S) (bit view) (senders_in h) (senders_in h') ≡ limit n (follows S) (bit view) (round S k) (round S k')
  unfolding limit
  limit-as k k' h h' c c' view = kept-alike n (follows S) (bit view) _ _ _ _ (alike k h c) (alike k' h' c')

  -- ---- the bus

  -- the events of round k + 1
  pub record Tells (k : ℕ) (e : Events) : Type 0 where
    pub lost : (i j : ℕ) → i < size S → j < size S → S.controller (suc k) i j ≡ not (eqb (get_or e.fate (i * 16 + j) 0) 7)
    pub told : (i j : ℕ) → i < size S → j < size S → get_or e.fate (i * 16 + j) 0 ≡ 8 → S.word (suc k) i j ≡ get_or e.told (i * 16 + j) 0
    pub as-sent : (i j : ℕ) → i < size S → j < size S → get_or e.fate (i * 16 + j) 0 ≢ 8 → S.word (suc k) i j ≡ sent S j (suc k)
    pub told-view : Partitionable S → (i j : ℕ) → i < size S → j < size S → get_or e.fate (i * 16 + j) 0 ≡ 8
        → S.view (suc k) i j ≡ get_or e.views (i * 16 + j) 0
    pub as-sent-view : Partitionable S → (i j : ℕ) → i < size S → j < size S → get_or e.fate (i * 16 + j) 0 ≢ 8
        → S.view (suc k) i j ≡ view_word_sent S j (suc k)

  module _ (k : ℕ) (states : List State) (are : (i : ℕ) → i < n → state_at states i ≡ state S i k) where
    latest-small : (j : ℕ) → j < n → (state S j k).latest < 2 ^ 28
    latest-small j hj =
        let h = held S ok j hj k in
        let e : (state S j k).setup.n ≡ n = h.size_is in
        below-kind n _ (small S ok) (rw e at h.fits.latest)

    sent-as : (j : ℕ) → j < n → get_or (sent_words n states) j 0 ≡ sent S j (suc k)
    unfolding sent_words
    sent-as j hj =
        array_at n _ j hj (small S ok)
        ∙ ap (λ (x : State). bus_word (x.latest % 2 ^ 28)) (are j hj)
        ∙ ap bus_word (mod-eq_of_lt (latest-small j hj))
        ∙ sym (sent_is S ok j hj k)

    view-small : (j : ℕ) → j < n → (state S j k).counters.view < 2 ^ 28
    view-small j hj =
        let h = held S ok j hj k in
        let e : (state S j k).setup.n ≡ n = h.size_is in
        below-kind n _ (small S ok) (rw e at h.fits.view)

    sent-view-as : Partitionable S → (j : ℕ) → j < n → get_or (sent_views n states) j 0 ≡ view_word_sent S j (suc k)
    unfolding sent_views
    sent-view-as p j hj =
        array_at n _ j hj (small S ok)
        ∙ ap (λ (x : State). view_word (x.counters.view % 2 ^ 28)) (are j hj)
        ∙ ap (λ (x : ℕ). view_word x) (mod-eq_of_lt (view-small j hj))
        ∙ sym (view-sent-is S ok j hj k ∙ cond-true _ _ p)

    pub carries : (e : Events) → Tells k e → Carries S (suc k) (arrived n (sent_words n states) (sent_views n states) e)
    unfolding arrived bit_in word_in view_word_in
    carries e t = record {
      bits = λ i j hi hj.
          ap (λ (x : ℕ). bit x j) (array_at n _ i hi (small S ok)) ∙ bit-pack n _ j hj ∙ sym (t.lost i j hi hj);
      words = λ i j hi hj.
          let s = small S ok in
          word-arrives n (sent_words n states) (sent_views n states) e i j (omega arith) (omega arith)
          ∙ arrives-as (get_or e.fate (i * 16 + j) 0) (t.told i j hi hj) (λ f. t.as-sent i j hi hj f ∙ sym (sent-as j hj));
      views = λ p i j hi hj.
          let s = small S ok in
          view-arrives n (sent_words n states) (sent_views n states) e i j (omega arith) (omega arith)
          ∙ arrives-as (get_or e.fate (i * 16 + j) 0) (t.told-view p i j hi hj) (λ f. t.as-sent-view p i j hi hj f ∙ sym (sent-view-as p j hj));
    }

    -- ---- the steps

    module _ (this before : Bus) (c : Carries S (suc k) this) (c' : Carries S k before) (none : NoChanges S) where
      choose : (b : Bool) (i j : ℕ) → i < n → j < n → cond b (word_to this i j) (word_to before i j) ≡ word_in S (cond b (suc k) (suc k - 1)) i j
      choose true i j hi hj = c.words i j hi hj
      choose false i j hi hj = let e : suc k - 1 ≡ k = omega arith in rw e (c'.words i j hi hj)

      choose-view : Partitionable S → (b : Bool) (i j : ℕ) → i < n → j < n
          → cond b (view_to this i j) (view_to before i j) ≡ view_word_in S (cond b (suc k) (suc k - 1)) i j
      choose-view p true i j hi hj = c.views p i j hi hj
      choose-view p false i j hi hj = let e : suc k - 1 ≡ k = omega arith in rw e (c'.views p i j hi hj)

      choose-bit : (b : Bool) (i j : ℕ) → i < n → j < n
          → bit (cond b (get_or this.bits i 0) (get_or before.bits i 0)) j ≡ bit_in S (cond b (suc k) (suc k - 1)) i j
      choose-bit true i j hi hj = c.bits i j hi hj
      choose-bit false i j hi hj = let e : suc k - 1 ≡ k = omega arith in rw e (c'.bits i j hi hj)

      step-as : (i : ℕ) → i < n → step_at S.setup states this before i ≡ answer_at S i (suc k) (ready S i k)
      unfolding step_at bits_read read_round
      step-as i hi =
          let place = get_or S.setup.places i 0 in
          let w =
          read_is S.setup.partitionable n place i this.words before.words this.views before.views
          ∙ read_alike S.setup.partitionable (bytes-ext n _ _ (λ j hj. choose (ltb j place) i j hi hj))
          (λ p. bytes-ext n _ _ (λ j hj. choose-view p (ltb j place) i j hi hj)) in
          let b = pack-ext n _ _ (λ j hj. choose-bit (ltb j place) i j hi hj) in
          ap₂ (λ (x : List ℕ) (y : ℕ). step_of (state_at states i) x y) w b
          ∙ ap (λ (st : State). step_of st (read_bytes S i (suc k)) (read_bits S i (suc k))) (are i hi ∙ sym (ready-without S none i k))

      pub states-as : length states ≡ 16 → (i : ℕ) → i < n → state_at (stepped_states S.setup states this before) i ≡ state S i (suc k)
      unfolding stepped_states state
      states-as l i hi = updated-at n _ states i blank hi (rw l (small S ok)) ∙ ap (λ (x : Stepped). x.state) (step-as i hi)

      pub health-as : (i : ℕ) → i < n → get_or (answered_health S.setup states this before) i 0 ≡ health S i (suc k)
      unfolding answered_health health
      health-as i hi = array_at n _ i hi (small S ok) ∙ ap (λ (x : Stepped). x.health) (step-as i hi)
