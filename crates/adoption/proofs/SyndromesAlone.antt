-- Rules 1 to 8 and a change of limits see nothing of views: by computation, but for what is read and for head bit 5 in the setups.
use Prim.Native.Nat.{ℕ, zero, suc, ◌+◌, ◌-◌, ◌<◌}
use mathlib.Core.Path.{◌≡◌, refl, sym, ap, ap₂, ◌∙◌, subst}
use mathlib.Core.Bool.{Bool, true, false, cond, not, ◌&&◌, beq}
use mathlib.Core.List.{List, [], ◌∷◌}
use native.Mathlib.Omega.{arith}
use borrow.Author.Tests.{eq-eqb, eqb-true}
use Rattle.words.specs.Bits.{bit, full}
use Rattle.words.specs.Word.{word_at}
use Rattle.words.specs.Array.{array}
use Rattle.words.specs.Verdict.{is_accepted, single, first_refusal}
use Rattle.words.specs.Verdict.{Verdict}
use Rattle.words.proofs.Truth.{iff-eq, cond-false}
use Rattle.words.proofs.BitLaws.{pack-ext}
use Rattle.words.proofs.LowestLaws.{lowest-le}
use Rattle.words.proofs.ArrayLaws.{array-ext}
use Rattle.words.proofs.VerdictLaws.{and-then-next, and-then-accepts}
use Rattle.setup.specs.Check.{setup_roomy, setup_verdict}
use Rattle.setup.specs.declared.Setup.{Setup}
use Rattle.setup.proofs.SetupLaws.{SetupFits, verdict-fits, fits-verdict as setup-accepted}
use Rattle.rules.specs.Hearing.{entry_of, reading_of}
use Rattle.rules.specs.declared.Reading.{Reading}
use Rattle.rules.specs.declared.Judgement.{Judgement}
use Rattle.accounts.specs.Round.{accounted_at, counters_of}
use Rattle.changes.specs.Pending.{nothing, pending_of, renewed, due, counted_down}
use Rattle.changes.specs.Adjust.{adjusted_of}
use Rattle.changes.specs.Frame.{same_frame, may_follow, frame_verdict}
use Rattle.changes.specs.declared.Pending.{Pending}
use Rattle.changes.specs.Books.{turned, counted, books_after}
use Rattle.changes.specs.declared.Books.{Books}
use Rattle.views.specs.Views.{no_views, fresh_views}
use Rattle.image.specs.Counters.{zero_counters}
use Rattle.presence.specs.Valid.{state_verdict}
use Rattle.presence.specs.Opening.{fresh}
use Rattle.presence.specs.Step.{place_of, mark_of, own_syndrome, aligned_for, judgement_for, outgoing_for, books_of, views_for, after_round}
use Rattle.presence.specs.Change.{new_verdict, change_verdict, with_pending, change_of}
use Rattle.presence.specs.declared.State.{State}
use Rattle.presence.proofs.ValidLaws.{StateFits, fits-valid}
use Rattle.agreement.specs.Fault.{first_follower, limit}
use Rattle.agreement.specs.Session.{Offer, made, Session, Accepted, Partitionable, size, u, follows, bit_in, word_in, round, read_round, read_bits, read_bytes, state, ready, health, handed, view_of, kept_by, kept}
use Rattle.agreement.proofs.Offers.{change-fits}
use Rattle.agreement.proofs.Steps.{reading, seen, read_word, setup-fits, held, ready_held, ready-is, state-zero, state-suc, health-suc, handed-suc}
use Rattle.adoption.specs.SyndromesAlone.{bit_turned, offers_turned, syndromes_alone, local_side, SyndromesAlone}

-- ---- head bit 5 in a setup

-- a setup with this head bit 5
abbrev with_bit : Bool → Setup → Setup
with_bit b s =
    record { n = s.n; q = s.q; partitionable = b; limits = s.limits; marks = s.marks; places = s.places; criticality = s.criticality }

fits-either : (b : Bool) (s : Setup) → SetupFits s → SetupFits (with_bit b s)
unfolding setup_roomy
fits-either b s f =
    record { least = f.least; most = f.most; q-most = f.q-most; limits = f.limits; each = f.each; roomy = f.roomy; marks = f.marks }

accepted-either : (b : Bool) (s : Setup) → (setup_verdict s).number ≡ 0 → (setup_verdict (with_bit b s)).number ≡ 0
accepted-either b s z = ap (λ (v : Verdict). v.number) (setup-accepted (with_bit b s) (fits-either b s (verdict-fits s z)))

-- it is accepted with the bit and without it
accepts-turned : (s : Setup) → is_accepted (setup_verdict (bit_turned s)) ≡ is_accepted (setup_verdict s)
accepts-turned s =
    iff-eq _ _ (λ t. eq-eqb _ 0 (accepted-either s.partitionable (bit_turned s) (eqb-true _ 0 t)))
    (λ t. eq-eqb _ 0 (accepted-either (not s.partitionable) s (eqb-true _ 0 t)))

-- ---- a change

not_same : (a b : Bool) → beq (not a) (not b) ≡ beq a b
not_same true true = refl
not_same true false = refl
not_same false true = refl
not_same false false = refl

frame-turned : (s new : Setup) → same_frame (bit_turned s) (bit_turned new) ≡ same_frame s new
unfolding same_frame
frame-turned s new = rw not_same

frame-verdict : (s new : Setup) (c : Pending) (lead : ℕ) → frame_verdict (bit_turned s) c (bit_turned new) lead ≡ frame_verdict s c new lead
unfolding frame_verdict
frame-verdict s new c lead = ap (λ (b : Bool). first_refusal (single b 23 0 ∷ single (may_follow c lead) 24 0 ∷ [])) (frame-turned s new)

accepts-change : (st : State) (new : Setup) (lead : ℕ) → StateFits st → StateFits (local_side st)
    → is_accepted (change_verdict (local_side st) (bit_turned new) lead) ≡ is_accepted (change_verdict st new lead)
unfolding change_verdict new_verdict
accepts-change st new lead f g =
    ap is_accepted (and-then-next (state_verdict (local_side st)) _ (fits-valid (local_side st) g))
    ∙ and-then-accepts (setup_verdict (bit_turned new)) _
    ∙ ap₂ (λ (a b : Bool). a && b) (accepts-turned new) (ap is_accepted (frame-verdict st.setup new st.pending lead))
    ∙ sym (and-then-accepts (setup_verdict new) _)
    ∙ ap is_accepted (sym (and-then-next (state_verdict st) _ (fits-valid st f)))

change-alone : (st : State) (o : Offer) → StateFits st → StateFits (local_side st)
    → (change_of (local_side st) (bit_turned o.setup) o.lead).state ≡ local_side (change_of st o.setup o.lead).state
unfolding change_of pending_of
change-alone st o f g =
    ap (λ (b : Bool). cond b (with_pending (local_side st) (pending_of o.setup o.lead)) (local_side st)) (accepts-change st o.setup o.lead f g)
    ∙ go (is_accepted (change_verdict st o.setup o.lead))
  where
    go : (b : Bool) → cond b (with_pending (local_side st) (pending_of o.setup o.lead)) (local_side st)
        ≡ local_side (cond b (with_pending st (pending_of o.setup o.lead)) st)
    go true = refl
    go false = refl

-- changes one after the other
made-alone : (os : List Offer) (st : State) → StateFits st → StateFits (local_side st) → made (offers_turned os) (local_side st) ≡ local_side (made os st)
unfolding made
made-alone [] st f g = refl
made-alone (o ∷ os) st f g =
    let e = change-alone st o f g in
    ap (made (offers_turned os)) e
    ∙ made-alone os (change_of st o.setup o.lead).state (change-fits st o.setup o.lead f)
    (subst StateFits e (change-fits (local_side st) (bit_turned o.setup) o.lead g))

-- ---- a round

abbrev books_turned : Books → Books
books_turned b = record { setup = bit_turned b.setup; counters = b.counters; pending = b.pending }

turned-alone : (b : Books) → turned (books_turned b) ≡ books_turned (turned b)
unfolding turned
turned-alone b = go (due b.pending)
  where
    go : (d : Bool)
        → cond {A = Books} d (record { setup = renewed (bit_turned b.setup) b.pending; counters = adjusted_of b.setup.n b.pending b.counters; pending = nothing })
        (record { setup = bit_turned b.setup; counters = b.counters; pending = counted_down b.pending })
        ≡ books_turned (cond d (record { setup = renewed b.setup b.pending; counters = adjusted_of b.setup.n b.pending b.counters; pending = nothing })
        (record { setup = b.setup; counters = b.counters; pending = counted_down b.pending }))
    go true = refl
    go false = refl

counted-alone : (health : ℕ) (b : Books) → counted health (books_turned b) ≡ books_turned (counted health b)
unfolding counted counters_of accounted_at
counted-alone health b = refl

books-alone : (b : Books) (health : ℕ) → books_after (books_turned b) health ≡ books_turned (books_after b health)
unfolding books_after
books-alone b health = ap (counted health) (turned-alone b) ∙ counted-alone health (turned b)

judged-alone : (st : State) (this : Reading) → judgement_for (local_side st) this ≡ judgement_for st this
unfolding judgement_for aligned_for own_syndrome place_of
judged-alone st this = refl

no-views : (st : State) (views : List ℕ) → st.setup.partitionable ≡ true → views_for (local_side st) views ≡ no_views
unfolding views_for
no-views st views p = cond-false _ no_views (ap not p)

round-alone : (st : State) (this : Reading) (views views' : List ℕ) → st.setup.partitionable ≡ true
    → after_round (local_side st) this views' ≡ local_side (after_round st this views)
unfolding after_round
round-alone st this views views' p =
    let j = judged-alone st this in
    let b : books_after (books_of (local_side st)) (judgement_for (local_side st) this).health ≡ books_turned (books_after (books_of st) (judgement_for st this).health) =
    ap (λ (x : Judgement). books_after (books_of (local_side st)) x.health) j ∙ books-alone (books_of st) (judgement_for st this).health
    in
    let v = no-views st views' p in
    λ t. record {
      setup = (b t).setup;
      own = st.own;
      counters = (b t).counters;
      previous = this;
      latest = (j t).syndrome;
      earlier = st.latest;
      pending = (b t).pending;
      views = v t;
    }

-- ---- a session

module _ (S : Session) (ok : Accepted S) (set : Partitionable S) where
  abbrev A : Session
  A = syndromes_alone S

  ok-alone : Accepted A
  ok-alone = accepted-either (not S.setup.partitionable) S.setup ok

  bit-same : (k i j : ℕ) → bit_in A k i j ≡ bit_in S k i j
  unfolding bit_in
  bit-same zero i j = refl
  bit-same (suc k) i j = refl

  word_same : (k i j : ℕ) → word_in A k i j ≡ word_in S k i j
  unfolding word_in
  word_same zero i j = refl
  word_same (suc k) i j = refl

  read_same : (i k j : ℕ) → read_round A i k j ≡ read_round S i k j
  unfolding read_round
  read_same i k j = refl

  bits-same : (i k : ℕ) → read_bits A i k ≡ read_bits S i k
  unfolding read_round
  bits-same i k = pack-ext (size S) _ _ (λ j h. bit-same (read_round S i k j) i j)

  words_same : (i k j : ℕ) → j < size S → word_at (read_bytes A i k) j ≡ word_at (read_bytes S i k) j
  unfolding read_round
  words_same i k j h = read_word A i k j h ∙ word_same (read_round S i k j) i j ∙ sym (read_word S i k j h)

  reading-same : (i k : ℕ) → reading A i k ≡ reading S i k
  unfolding reading_of
  reading-same i k =
      ap (reading_of (size S) (read_bytes A i k)) (bits-same i k)
      ∙ (λ t. record {
        heard = pack-ext (size S) (λ j. (entry_of (size S) (bit (read_bits S i k) j) (word_at (read_bytes A i k) j)).heard)
            (λ j. (entry_of (size S) (bit (read_bits S i k) j) (word_at (read_bytes S i k) j)).heard)
            (λ j h. ap (λ (w : ℕ). (entry_of (size S) (bit (read_bits S i k) j) w).heard) (words_same i k j h)) t;
        rows = array-ext (size S) (λ j. (entry_of (size S) (bit (read_bits S i k) j) (word_at (read_bytes A i k) j)).row)
            (λ j. (entry_of (size S) (bit (read_bits S i k) j) (word_at (read_bytes S i k) j)).row)
            (λ j h. ap (λ (w : ℕ). (entry_of (size S) (bit (read_bits S i k) j) w).row) (words_same i k j h)) t;
      })

  module _ (i : ℕ) (below : i < size S) where
    -- a step, from what is ready for it
    next : (T : Session) → Accepted T → i < size T → (k : ℕ) → state T i (suc k) ≡ after_round (ready T i k) (reading T i (suc k)) (seen T i (suc k))
    next T good h k =
        state-suc T good i h k ∙ ap (λ (st : State). after_round st (reading T i (suc k)) (seen T i (suc k))) (sym (ready-is T i k))

    ready-alone : (k : ℕ) → state A i k ≡ local_side (state S i k) → ready A i k ≡ local_side (ready S i k)
    ready-alone k e =
        ap (made (offers_turned (S.offers (suc k) i))) e
        ∙ made-alone (S.offers (suc k) i) (state S i k) (held S ok i below k).fits (subst StateFits e (held A ok-alone i below k).fits)

    states : (k : ℕ) → state A i k ≡ local_side (state S i k)
    unfolding fresh fresh_views
    states zero =
        state-zero A ok-alone i below
        ∙ ap (λ (b : Bool). record {
          setup = bit_turned S.setup;
          own = i + 1;
          counters = zero_counters (full (size S));
          previous = record { heard = full (size S); rows = array (size S) (λ j. full (size S)) };
          latest = full (size S);
          earlier = full (size S);
          pending = nothing;
          views = fresh_views (not b) (size S);
        }) set
        ∙ sym (ap local_side (state-zero S ok i below))
    states (suc k) =
        next A ok-alone below k
        ∙ ap₂ (λ (st : State) (this : Reading). after_round st this (seen A i (suc k))) (ready-alone k (states k)) (reading-same i (suc k))
        ∙ round-alone (ready S i k) (reading S i (suc k)) (seen S i (suc k)) (seen A i (suc k)) ((ready_held S ok i below k).partitionable-is ∙ set)
        ∙ ap local_side (sym (next S ok below k))

    healths : (k : ℕ) → health A i k ≡ health S i k
    unfolding health
    healths zero = refl
    healths (suc k) =
        health-suc A ok-alone i below k
        ∙ ap₂ (λ (st : State) (this : Reading). (judgement_for st this).health) (states k) (reading-same i (suc k))
        ∙ ap (λ (x : Judgement). x.health) (judged-alone (state S i k) (reading S i (suc k)))
        ∙ sym (health-suc S ok i below k)

    handed-alone : (st : State) (this : Reading) → outgoing_for (local_side st) this ≡ outgoing_for st this
    unfolding outgoing_for judgement_for aligned_for own_syndrome place_of mark_of
    handed-alone st this = refl

    words : (k : ℕ) → handed A i k ≡ handed S i k
    unfolding handed
    words zero = refl
    words (suc k) =
        handed-suc A ok-alone i below k
        ∙ ap₂ outgoing_for (states k) (reading-same i (suc k))
        ∙ handed-alone (state S i k) (reading S i (suc k))
        ∙ sym (handed-suc S ok i below k)

  -- ---- the fault limit

  round_same : (k : ℕ) → round A k ≡ round S k
  round_same k = λ t. record {
    hears = λ i j. (entry_of (size S) (bit-same k i j t) (word_same k i j t)).heard;
    word = λ i j. word_same k i j t;
  }

  limits : (ρ : ℕ) → kept A ρ ≡ kept S ρ
  unfolding kept_by
  limits ρ =
      let first = first_follower (size S) (follows S) in
      let le = lowest-le (follows S) (size S) in
      let least = (setup-fits S ok).least in
      let v : view_of A first (ρ + u S - 1) ≡ view_of S first (ρ + u S - 1) = ap (λ (st : State). st.counters.view) (states first (omega arith) (ρ + u S - 1)) in
      λ t. limit (size S) (follows S) (bit (v t)) (round_same ρ t) (round_same (ρ - u S - 1) t)

pub syndromes-alone : SyndromesAlone
syndromes-alone = record {
  accepted = ok-alone;
  states = λ S ok set i k h. states S ok set i h k;
  healths = λ S ok set i k h. healths S ok set i h k;
  words = λ S ok set i k h. words S ok set i h k;
  limits = limits;
}
