-- A session's steps follow the rules that Protocol.antt states of rounds.
use Prim.Native.Nat.{ℕ, zero, suc, ◌-◌, ◌^◌, ◌≤◌, ◌<◌}
use mathlib.Core.Path.{◌≡◌, refl, sym, ap, ap₂, ◌∙◌, subst}
use mathlib.Core.Bool.{Bool, true, false, not, ◌&&◌, beq}
use mathlib.Core.Logic.{inr}
use native.Mathlib.Omega.{arith}
use native.Mathlib.Nat.{zero-lt-suc}
use lib.Dec.{eqb}
use lib.ListN.{get_or}
use Rattle.words.specs.Bits.{bit, full}
use Rattle.words.specs.Count.{any}
use Rattle.words.proofs.Truth.{and_r}
use Rattle.words.proofs.BitLaws.{bit-full, bit-mod}
use Rattle.words.proofs.CountLaws.{any-ext}
use Rattle.rules.specs.Hearing.{bus_word}
use Rattle.vote.specs.Vote.{tally, vote_of}
use Rattle.rules.specs.Accusation.{differs_at}
use Rattle.rules.specs.Syndrome.{voters_of}
use Rattle.presence.specs.Opening.{fresh}
use Rattle.presence.specs.Step.{aligned_for, own_syndrome, judgement_for}
use Rattle.presence.specs.declared.State.{State}
use Rattle.rules.proofs.ReceptionLaws.{below-kind, row-of-bus, entry-bit, entry_row}
use Rattle.rules.proofs.SyndromeLaws.{voter-bit, health-bit, syndrome-bit}
use Rattle.vote.proofs.VoteLaws.{tally-ext}
use Rattle.agreement.specs.Fault.{half}
use Rattle.agreement.specs.Session.{Session, Accepted, size, u, RuleFollower, follows, bit_in, word_in, round, state, health, Common, Bound, view_of}
use Rattle.agreement.proofs.FaultLaws.{half-none}
use Rattle.agreement.proofs.Protocol.{Rules}
use Rattle.agreement.proofs.Steps.{small, held, reading, state-zero, health-suc, syndrome-suc}
use Rattle.agreement.proofs.Shared.{protocol, rule-follower, counting}
use Rattle.agreement.proofs.Aligned.{entry, start-hears, start-row, own-size, aligned-hears, aligned-rows, own_is, sent_is}

-- a test matters only where another passed
and-when : (a b c : Bool) → (a ≡ true → b ≡ c) → a && b ≡ a && c
and-when true b c h = h refl
and-when false b c h = refl

module _ (S : Session) (ok : Accepted S) where
  -- ---- rule 4

  -- whose rows vote: those of modules in the own view that are heard in the deciding round
  voters-are : (k i l : ℕ) → i < size S → l < size S
      → bit (voters_of (size S) (view_of S i k) (aligned_for (state S i k) (reading S i (suc k)))) l
      ≡ bit (view_of S i (suc k - 1)) l && (round S (suc k - u S)).hears i l
  voters-are k i l hi hl =
      let e : k ≡ suc k - 1 = omega arith in
      voter-bit (size S) (view_of S i k) (aligned_for (state S i k) (reading S i (suc k))) l hl
      ∙ ap₂ (λ (v : ℕ) (b : Bool). bit v l && b) (ap (λ (m : ℕ). view_of S i m) e) (aligned-hears S ok i hi k l hl)

  voted : (k i j : ℕ) → i < size S → j < size S
      → bit (health S i (suc k)) j
      ≡ tally (size S) (λ l. not (eqb l j) && (bit (view_of S i (suc k - 1)) l && (round S (suc k - u S)).hears i l))
      (λ l. bit (word_in S (suc k - u S) i l) j) (bit (state S i (suc k - u S - 1)).latest j)
  unfolding judgement_for vote_of
  voted k i j hi hj =
      let z = own-size S ok i hi k in
      let st = state S i k in
      let a = aligned_for st (reading S i (suc k)) in
      let voters = voters_of (size S) (view_of S i k) a in
      let b : bit (health S i (suc k)) j ≡ vote_of (size S) voters a.rows (own_syndrome st) j
      = ap (λ (h : ℕ). bit h j) (health-suc S ok i hi k)
      ∙ health-bit st.setup.n st.counters.view a (own_syndrome st) j (subst (λ (m : ℕ). j < m) (sym z) hj)
      ∙ ap (λ (m : ℕ). vote_of m (voters_of m st.counters.view a) a.rows (own_syndrome st) j) z in
      let says : (l : ℕ) → l < size S → (round S (suc k - u S)).hears i l ≡ true → bit (get_or a.rows l 0) j ≡ bit (word_in S (suc k - u S) i l) j
      = λ l hl t. ap (λ (r : ℕ). bit r j) (aligned-rows S ok i hi k l hl)
      ∙ entry-bit (size S) (bit_in S (suc k - u S) i l) (word_in S (suc k - u S) i l) j (omega (arith, small S ok)) t in
      b ∙ tally-ext (size S) _ _ _ _ _ _ (λ l hl. ap (λ (b : Bool). not (eqb l j) && b) (voters-are k i l hi hl))
      (λ l hl. ap (λ (b : Bool). not (eqb l j) && b && bit (get_or a.rows l 0) j) (voters-are k i l hi hl)
      ∙ and-when (not (eqb l j) && (bit (view_of S i (suc k - 1)) l && (round S (suc k - u S)).hears i l)) _ _
      (λ t. says l hl (and_r (bit (view_of S i (suc k - 1)) l) _ (and_r (not (eqb l j)) _ t))))
      (inr (ap (λ (w : ℕ). bit w j) (own_is S ok i hi k)))

  -- ---- rules 5 and 6

  marked : (k i j : ℕ) → i < size S → j < size S
      → bit (state S i (suc k)).latest j
      ≡ ((round S (suc k - u S)).hears i j
      && not (bit (view_of S i (suc k - 1)) j && (round S (suc k - u S)).hears i j
      && any (size S) (λ h. not (eqb h j) && not (beq (bit (word_in S (suc k - u S) i j) h) (bit (health S i (suc k)) h)))))
  unfolding judgement_for differs_at
  marked k i j hi hj =
      let z = own-size S ok i hi k in
      let st = state S i k in
      let a = aligned_for st (reading S i (suc k)) in
      let e = syndrome-suc S ok i hi k in
      let b = syndrome-bit st.setup.n st.counters.view a (own_syndrome st) j (subst (λ (m : ℕ). j < m) (sym z) hj) (subst (λ (m : ℕ). m ≤ 16) (sym z) (small S ok)) in
      let hears = aligned-hears S ok i hi k j hj in
      let v : bit (voters_of st.setup.n st.counters.view a) j ≡ bit (view_of S i (suc k - 1)) j && (round S (suc k - u S)).hears i j
      = ap (λ (m : ℕ). bit (voters_of m st.counters.view a) j) z ∙ voters-are k i j hi hj in
      let r = aligned-rows S ok i hi k j hj in
      let hs = health-suc S ok i hi k in
      let hit : (row health : ℕ) → ℕ → Bool = λ row health h. not (eqb h j) && not (beq (bit row h) (bit health h)) in
      let q : any st.setup.n (differs_at (get_or a.rows j 0) (judgement_for st (reading S i (suc k))).health j)
      ≡ any (size S) (hit (entry S (suc k - u S) i j).row (health S i (suc k)))
      = ap (λ (m : ℕ). any m (hit (get_or a.rows j 0) (judgement_for st (reading S i (suc k))).health)) z
      ∙ ap₂ (λ (x y : ℕ). any (size S) (hit x y)) r (sym hs) in
      ap (λ (v : ℕ). bit v j) e ∙ b
      ∙ ap₂ (λ (x y : Bool). x && not y) hears (ap₂ (λ (x y : Bool). x && y) v q)
      ∙ and-when _ _ _ (λ t. ap (λ (x : Bool). not (bit (view_of S i (suc k - 1)) j && (round S (suc k - u S)).hears i j && x))
      (any-ext (size S) _ _ (λ h hh. ap (λ (x : Bool). not (eqb h j) && not (beq x (bit (health S i (suc k)) h)))
      (entry-bit (size S) (bit_in S (suc k - u S) i j) (word_in S (suc k - u S) i j) h (omega (arith, small S ok)) t))))

  -- ---- rule 7, with what binds the words

  latest-small : (i k : ℕ) → i < size S → (state S i k).latest < 2 ^ size S
  latest-small i k hi = subst (λ (m : ℕ). (state S i k).latest < 2 ^ m) (own-size S ok i hi k) (held S ok i hi k).fits.latest

  -- the syndrome bits of the word that holds a syndrome
  bus-bit : (v h : ℕ) → v < 2 ^ size S → h < size S → bit (bus_word v) h ≡ bit v h
  bus-bit v h hv hh =
      sym (bit-mod 28 (bus_word v) h (omega (arith, small S ok)))
      ∙ ap (λ (x : ℕ). bit x h) (row-of-bus v (below-kind (size S) v (small S ok) hv))

  start-latest : (i : ℕ) → i < size S → (state S i 0).latest ≡ full (size S)
  unfolding fresh
  start-latest i hi = ap (λ (s : State). s.latest) (state-zero S ok i hi)

  start-says : (i l h : ℕ) → h < size S → bit (word_in S 0 i l) h ≡ true
  unfolding word_in
  start-says i l h hh =
      sym (bit-mod 28 (word_in S 0 i l) h (omega (arith, small S ok)))
      ∙ ap (λ (x : ℕ). bit x h) (sym (entry_row (size S) (bit_in S 0 i l) (word_in S 0 i l) (start-hears S ok i l)) ∙ start-row S ok i l)
      ∙ bit-full (size S) h hh

  says-syn : (last : ℕ) → Bound S last → (k i l h : ℕ) → k ≤ last → RuleFollower S i → RuleFollower S l → h < size S
      → (round S k).hears i l ≡ true → bit (word_in S k i l) h ≡ bit (state S l (k - 1)).latest h
  says-syn last bound zero i l h hk fi fl hh t =
      start-says i l h hh ∙ sym (ap (λ (v : ℕ). bit v h) (start-latest l fl.below) ∙ bit-full (size S) h hh)
  says-syn last bound (suc k) i l h hk fi fl hh t =
      let e : k ≡ suc k - 1 = omega arith in
      ap (λ (w : ℕ). bit w h) (bound (suc k) i l (zero-lt-suc k) hk fi fl t ∙ sent_is S ok l fl.below k)
      ∙ bus-bit (state S l k).latest h (latest-small l k fl.below) hh ∙ ap (λ (m : ℕ). bit (state S l m).latest h) e

  start-not-half : (j : ℕ) → half (size S) (follows S) (round S 0) j ≡ false
  unfolding word_in
  start-not-half j =
      half-none (size S) (follows S) (round S 0) j
      (λ i i'. record { hears = start-hears S ok i j ∙ sym (start-hears S ok i' j); word = λ h. refl })

  pub meets : (last : ℕ) → Bound S last → Common S last → Rules (protocol S) last
  unfolding health
  meets last bound common = record {
    voted = λ k i j fi hj. voted k i j fi.below hj;
    marked = λ k i j fi hj. marked k i j fi.below hj;
    sent = λ k i l h hk fi fl hh t. says-syn last bound k i l h hk (rule-follower S i fi) (rule-follower S l fl) hh t;
    counting = λ k i l hk ag fi hl. counting S ok last common k i l hk ag (rule-follower S i fi);
    start-hears = start-hears S ok;
    start-not-half = start-not-half;
    start-says = start-says;
    start-syn = λ i j fi hj. ap (λ (v : ℕ). bit v j) (start-latest i fi.below) ∙ bit-full (size S) j hj;
    start-health = λ i j fi hj. bit-full (size S) j hj;
  }
