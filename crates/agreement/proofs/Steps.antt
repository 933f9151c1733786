-- The steps of a session: every one is accepted, and gives what rules 1 to 8 make of its read. A module's life is its steps and its changes.
use Prim.Native.Nat.{ℕ, zero, suc, ◌+◌, ◌*◌, ◌^◌, ◌≤◌, ◌<◌}
use mathlib.Core.Path.{◌≡◌, refl, sym, ap, ap₂, ◌∙◌, subst}
use mathlib.Core.Bool.{Bool, true, false, cond}
use mathlib.Core.List.{List, [], ◌∷◌, ◌++◌}
use native.Mathlib.Omega.{arith}
use lib.ListN.{length, length-append}
use Rattle.words.specs.Word.{word_at}
use Rattle.words.proofs.Truth.{cond-true, cond_both}
use Rattle.words.proofs.BitLaws.{pack-lt}
use Rattle.words.proofs.ByteLaws.{bytes-length, word_of, word-front, word_after}
use Rattle.setup.specs.Limits.{fades}
use Rattle.setup.proofs.SetupLaws.{SetupFits, verdict-fits}
use Rattle.rules.specs.Hearing.{reading_of, causes_of}
use Rattle.changes.specs.Books.{counted, books_after}
use Rattle.changes.proofs.TurnLaws.{turned-size, turned-q, turned-partitionable, turned-marks, turned-places, turned-fades}
use Rattle.views.specs.ViewWord.{read_words, views_seen}
use Rattle.presence.specs.Valid.{Valid}
use Rattle.presence.specs.Opening.{fresh, open_of}
use Rattle.presence.specs.Step.{place_of, mark_of, own_syndrome, read_length, aligned_for, judgement_for, outgoing_for, books_of, voted_views, views_for, outgoing_view, after_round, accepted_step}
use Rattle.presence.specs.Change.{with_pending, change_of}
use Rattle.rules.specs.declared.Reading.{Reading}
use Rattle.presence.specs.declared.State.{State}
use Rattle.presence.specs.Opening.{Opened}
use Rattle.presence.specs.Step.{Stepped}
use Rattle.presence.proofs.ValidLaws.{StateFits, fits-valid, fresh-fits, after-fits}
use Rattle.presence.proofs.StateStepLaws.{step-accepts, step-refused, open-accepts}
use Rattle.presence.proofs.StateChangeLaws.{change-refused}
use Rattle.agreement.specs.Session.{Offer, made, Session, Accepted, Partitionable, size, word_in, view_word_in, read_round, read_bits, syndrome_bytes, view_bytes, read_bytes, answer_at, state, ready, health, handed, view_word_handed, view_of}
use Rattle.agreement.specs.Life.{Life, opens, steps, changes, refused-step, refused-change, refused-opening}
use Rattle.agreement.specs.Demand.{ByRules}
use Rattle.agreement.proofs.Offers.{made-fits, made-only, made-join, shift, join-end}

-- the read of module i in round k
abbrev pub reading : Session → ℕ → ℕ → Reading
reading S i k = reading_of (size S) (read_bytes S i k) (read_bits S i k)

-- its view words
abbrev pub seen : Session → ℕ → ℕ → List ℕ
seen S i k = views_seen S.setup.partitionable (size S) (read_bytes S i k) (read_bits S i k)

-- its causes
abbrev pub causes : Session → ℕ → ℕ → List ℕ
causes S i k = causes_of (size S) (read_bytes S i k) (read_bits S i k)

-- the first N words of a read are its syndromes, whether view words follow or not
pub read_word : (S : Session) (i k j : ℕ) → j < size S → word_at (read_bytes S i k) j ≡ word_in S (read_round S i k j) i j
read_word S i k j h =
    let l = bytes-length (size S) (λ j. word_in S (read_round S i k j) i j) in
    cond_both (λ (read : List ℕ). word_at read j ≡ word_in S (read_round S i k j) i j) S.setup.partitionable _ _
    (word-front (syndrome_bytes S i k) (view_bytes S i k) j (omega arith) ∙ word_of (size S) _ j h) (word_of (size S) _ j h)

-- and where they follow, they are the next N
pub read_view : (S : Session) → Partitionable S → (i k j : ℕ) → j < size S → word_at (read_bytes S i k) (size S + j) ≡ view_word_in S (read_round S i k j) i j
read_view S p i k j h =
    ap (λ (read : List ℕ). word_at read (size S + j)) (cond-true (syndrome_bytes S i k ++ view_bytes S i k) (syndrome_bytes S i k) p)
    ∙ word_after (syndrome_bytes S i k) (view_bytes S i k) (size S) j (bytes-length (size S) _) ∙ word_of (size S) _ j h

pub read_length_lem : (S : Session) (i k : ℕ) → length (read_bytes S i k) ≡ read_words S.setup.partitionable (size S) * 4
read_length_lem S i k = go S.setup.partitionable
  where
    go : (b : Bool) → length (cond b (syndrome_bytes S i k ++ view_bytes S i k) (syndrome_bytes S i k)) ≡ read_words b (size S) * 4
    go true =
        let a : length (syndrome_bytes S i k) ≡ size S * 4 = bytes-length (size S) _ in
        let b : length (view_bytes S i k) ≡ size S * 4 = bytes-length (size S) _ in
        length-append (syndrome_bytes S i k) (view_bytes S i k) ∙ omega arith
    go false = bytes-length (size S) _

-- what every state of a session is: of the setup it was opened from, P, R and the criticalities can be new
pub record Held (S : Session) (i : ℕ) (st : State) : Type 0 where
  pub fits : StateFits st
  pub size_is : st.setup.n ≡ size S
  pub q-is : st.setup.q ≡ S.setup.q
  pub partitionable-is : st.setup.partitionable ≡ S.setup.partitionable
  pub fades-is : fades st.setup.limits ≡ fades S.setup.limits
  pub marks-are : st.setup.marks ≡ S.setup.marks
  pub places-are : st.setup.places ≡ S.setup.places
  pub own : st.own ≡ i + 1

-- a change between steps leaves all but what is pending
pub ready-is : (S : Session) (i k : ℕ) → ready S i k ≡ with_pending (state S i k) (ready S i k).pending
ready-is S i k = made-only (S.offers (suc k) i) (state S i k)

module _ (S : Session) (ok : Accepted S) where
  pub setup-fits : SetupFits S.setup
  setup-fits = verdict-fits S.setup ok

  pub small : size S ≤ 16
  small = setup-fits.most

  module _ (i : ℕ) (below : i < size S) where
    pub opened : open_of S.setup (i + 1) ≡ record { number = 0; index = 0; state = fresh S.setup (i + 1) }
    opened = open-accepts S.setup (i + 1) setup-fits (omega arith) (omega arith)

    -- a step on a read of the session
    pub taken : (k : ℕ) (st : State) → Held S i st → answer_at S i k st ≡ accepted_step st (reading S i k) (seen S i k) (causes S i k)
    taken k st h =
        let e : st.setup.n ≡ size S = h.size_is in
        let p : st.setup.partitionable ≡ S.setup.partitionable = h.partitionable-is in
        let l : length (read_bytes S i k) ≡ read_length st = read_length_lem S i k ∙ ap₂ (λ (b : Bool) (n : ℕ). read_words b n * 4) (sym p) (sym e) in
        let b : read_bits S i k < 2 ^ st.setup.n = subst (λ (n : ℕ). read_bits S i k < 2 ^ n) (sym e) (pack-lt (size S) _) in
        step-accepts st (read_bytes S i k) (read_bits S i k) h.fits l b
        ∙ ap₂ (λ (b : Bool) (n : ℕ). accepted_step st (reading_of n (read_bytes S i k) (read_bits S i k)) (views_seen b n (read_bytes S i k) (read_bits S i k))
        (causes_of n (read_bytes S i k) (read_bits S i k))) p e

    after-held : (k : ℕ) (st : State) → Held S i st → Held S i (after_round st (reading S i k) (seen S i k))
    unfolding after_round books_after counted
    after-held k st h =
        record {
          fits =
              subst (λ (b : Bool). StateFits (after_round st (reading S i k) (views_seen b (size S) (read_bytes S i k) (read_bits S i k)))) h.partitionable-is
              (subst (λ (n : ℕ). StateFits (after_round st (reading_of n (read_bytes S i k) (read_bits S i k)) (views_seen st.setup.partitionable n (read_bytes S i k) (read_bits S i k))))
              h.size_is (after-fits st (read_bytes S i k) (read_bits S i k) h.fits));
          size_is = turned-size (books_of st) ∙ h.size_is;
          q-is = turned-q (books_of st) ∙ h.q-is;
          partitionable-is = turned-partitionable (books_of st) ∙ h.partitionable-is;
          fades-is = turned-fades (books_of st) h.fits.pending ∙ h.fades-is;
          marks-are = turned-marks (books_of st) ∙ h.marks-are;
          places-are = turned-places (books_of st) ∙ h.places-are;
          own = h.own;
        }

    made_held : (os : List Offer) (st : State) → Held S i st → Held S i (made os st)
    made_held os st h =
        let e = made-only os st in
        record {
          fits = made-fits os st h.fits;
          size_is = ap (λ (x : State). x.setup.n) e ∙ h.size_is;
          q-is = ap (λ (x : State). x.setup.q) e ∙ h.q-is;
          partitionable-is = ap (λ (x : State). x.setup.partitionable) e ∙ h.partitionable-is;
          fades-is = ap (λ (x : State). fades x.setup.limits) e ∙ h.fades-is;
          marks-are = ap (λ (x : State). x.setup.marks) e ∙ h.marks-are;
          places-are = ap (λ (x : State). x.setup.places) e ∙ h.places-are;
          own = ap (λ (x : State). x.own) e ∙ h.own;
        }

    -- the opening, and each step
    pub state-zero : state S i 0 ≡ fresh S.setup (i + 1)
    unfolding state
    state-zero = ap (λ (o : Opened). o.state) opened

    pub held : (k : ℕ) → Held S i (state S i k)
    unfolding state accepted_step fresh
    held zero =
        subst (λ (st : State). Held S i st) (sym state-zero)
        (record {
          fits = fresh-fits S.setup (i + 1) setup-fits (omega arith) (omega arith);
          size_is = refl;
          q-is = refl;
          partitionable-is = refl;
          fades-is = refl;
          marks-are = refl;
          places-are = refl;
          own = refl;
        })
    held (suc k) =
        let h = made_held (S.offers (suc k) i) (state S i k) (held k) in
        subst (λ (t : Stepped). Held S i t.state) (sym (taken (suc k) (ready S i k) h)) (after-held (suc k) (ready S i k) h)

    pub ready_held : (k : ℕ) → Held S i (ready S i k)
    ready_held k = made_held (S.offers (suc k) i) (state S i k) (held k)

    module _ (k : ℕ) where
      -- what is made of a change lies in what is pending alone
      abbrev pub before-step : State
      before-step = with_pending (state S i k) (ready S i k).pending

      step_is : answer_at S i (suc k) (ready S i k) ≡ accepted_step before-step (reading S i (suc k)) (seen S i (suc k)) (causes S i (suc k))
      step_is =
          taken (suc k) (ready S i k) (ready_held k)
          ∙ ap (λ (st : State). accepted_step st (reading S i (suc k)) (seen S i (suc k)) (causes S i (suc k))) (ready-is S i k)

      pub state-suc : state S i (suc k) ≡ after_round before-step (reading S i (suc k)) (seen S i (suc k))
      unfolding state accepted_step
      state-suc = ap (λ (t : Stepped). t.state) step_is

      -- rules 1 to 7 do not look at what is pending
      pub health-suc : health S i (suc k) ≡ (judgement_for (state S i k) (reading S i (suc k))).health
      unfolding health accepted_step judgement_for aligned_for own_syndrome place_of
      health-suc = ap (λ (t : Stepped). t.health) step_is

      pub handed-suc : handed S i (suc k) ≡ outgoing_for (state S i k) (reading S i (suc k))
      unfolding handed accepted_step judgement_for aligned_for own_syndrome place_of outgoing_for mark_of
      handed-suc = ap (λ (t : Stepped). t.word) step_is

      -- and neither does what is made of the view words
      pub views-suc : (state S i (suc k)).views ≡ views_for (state S i k) (seen S i (suc k))
      unfolding after_round views_for voted_views place_of
      views-suc = ap (λ (st : State). st.views) state-suc

      pub view-handed-suc : view_word_handed S i (suc k) ≡ outgoing_view (state S i k) (view_of S i (suc k))
      unfolding view_word_handed accepted_step outgoing_view mark_of
      view-handed-suc =
          ap (λ (t : Stepped). t.second) step_is
          ∙ ap (λ (st : State). outgoing_view (state S i k) st.counters.view) (sym state-suc)

      pub syndrome-suc : (state S i (suc k)).latest ≡ (judgement_for (state S i k) (reading S i (suc k))).syndrome
      unfolding after_round judgement_for aligned_for own_syndrome place_of
      syndrome-suc = ap (λ (st : State). st.latest) state-suc

    -- ---- a life is its steps and its changes: refused calls between them change nothing

    pub life : (k h : ℕ) (os : List Offer) (st : State) → Life S i k os st h → ByRules S i k os st h
    unfolding state health made
    life k h os st opens = record { done = []; offered = refl; holds = refl; answered = refl }
    life k h os st (steps {k = m} {h = g} {st = before} l) =
        let r = life m g [] before l in
        let e : before ≡ ready S i m = r.holds ∙ ap (λ (d : List Offer). made d (state S i m)) (sym (join-end r.done) ∙ r.offered) in
        record {
          done = [];
          offered = refl;
          holds = ap (λ (x : State). (answer_at S i (suc m) x).state) e;
          answered = ap (λ (x : State). (answer_at S i (suc m) x).health) e;
        }
    life k h os st (changes {st = before} {o = o} l) =
        let r = life k h (o ∷ os) before l in
        record {
          done = r.done ++ (o ∷ []);
          offered = shift r.done o os ∙ r.offered;
          holds = ap (λ (x : State). (change_of x o.setup o.lead).state) r.holds ∙ sym (made-join r.done (o ∷ []) (state S i k));
          answered = r.answered;
        }
    life k h os st (refused-step {st = before} read controller l no_zero) =
        let r = life k h os before l in
        record { done = r.done; offered = r.offered; holds = step-refused before read controller no_zero ∙ r.holds; answered = r.answered }
    life k h os st (refused-change {st = before} s lead l no_zero) =
        let r = life k h os before l in
        record { done = r.done; offered = r.offered; holds = change-refused before s lead no_zero ∙ r.holds; answered = r.answered }
    life k h os st (refused-opening s own l no_zero) = life k h os st l

    pub life-held : (k h : ℕ) (os : List Offer) (st : State) → Life S i k os st h → Held S i st
    life-held k h os st l =
        let r = life k h os st l in
        subst (λ (x : State). Held S i x) (sym r.holds) (made_held r.done (state S i k) (held k))

    pub life-accepted : (k h : ℕ) (os : List Offer) (st : State) → Life S i k os st h → (answer_at S i (suc k) st).number ≡ 0
    unfolding accepted_step
    life-accepted k h os st l = ap (λ (t : Stepped). t.number) (taken (suc k) st (life-held k h os st l))

    pub life-valid : (k h : ℕ) (os : List Offer) (st : State) → Life S i k os st h → Valid st
    life-valid k h os st l = fits-valid st (life-held k h os st l).fits

    pub life-view : (k h : ℕ) (os : List Offer) (st : State) → Life S i k os st h → st.counters.view < 2 ^ size S
    life-view k h os st l =
        let d = life-held k h os st l in
        subst (λ (n : ℕ). st.counters.view < 2 ^ n) d.size_is d.fits.view
