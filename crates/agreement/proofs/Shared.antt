-- What rule-followers share as long as their health vectors are one: any account that is kept of them alone; and where their changes are common, the
-- books: the limits that hold, the counters with the view, and what is pending.
use Prim.Native.Nat.{ℕ, zero, suc, ◌-◌, ◌^◌, ◌≤◌, ◌<◌}
use mathlib.Core.Path.{◌≡◌, refl, sym, ap, ap₂, ◌∙◌, subst}
use mathlib.Core.Logic.{⊎_elim}
use native.Mathlib.Omega.{arith}
use native.Mathlib.Nat.{le_refl}
use Rattle.words.specs.Bits.{bit}
use Rattle.words.proofs.BitLaws.{bit-ext}
use Rattle.changes.specs.Pending.{pending_of}
use Rattle.changes.specs.Books.{books_after}
use Rattle.changes.specs.declared.Pending.{Pending}
use Rattle.changes.specs.declared.Books.{Books}
use Rattle.presence.specs.Opening.{fresh}
use Rattle.presence.specs.Step.{place_of, own_syndrome, aligned_for, judgement_for, books_of, after_round}
use Rattle.presence.specs.Change.{with_pending}
use Rattle.presence.specs.declared.State.{State}
use Rattle.rules.proofs.SyndromeLaws.{health-lt}
use Rattle.agreement.specs.Fault.{first_follower}
use Rattle.agreement.specs.Session.{Offer, Session, Accepted, size, u, RuleFollower, follows, round, state, ready, health, Accepts, Common, view_of}
use Rattle.agreement.specs.Ledger.{ledger}
use Rattle.agreement.proofs.FaultLaws.{Follower, first-follower}
use Rattle.agreement.proofs.Protocol.{Protocol, Agree}
use Rattle.agreement.proofs.Offers.{Found, found-made, made-cases}
use Rattle.agreement.proofs.Steps.{reading, ready-is, state-zero, state-suc, health-suc}
use Rattle.agreement.proofs.Aligned.{own-size}

module _ (S : Session) where
  abbrev n : ℕ
  n = size S

  -- Whose rows vote in step k: those of the modules in the view held at the end of the round before, at module i its own, for the limit that of
  -- the rule-followers.
  abbrev pub protocol : Protocol
  protocol = record {
    n = n;
    u = u S;
    follows = follows S;
    round = round S;
    elect = λ k l. bit (view_of S (first_follower (size S) (follows S)) (k - 1)) l;
    counted = λ k i l. bit (view_of S i (k - 1)) l;
    syn = λ k i j. bit (state S i k).latest j;
    health = λ k i j. bit (health S i k) j;
  }

  pub follower : (i : ℕ) → RuleFollower S i → Follower n (follows S) i
  follower i f = record { below = f.below; true-to = f.true-to }

  pub rule-follower : (i : ℕ) → Follower n (follows S) i → RuleFollower S i
  rule-follower i f = record { below = f.below; true-to = f.true-to }

module _ (S : Session) (ok : Accepted S) where
  health-small : (i k : ℕ) → i < size S → health S i (suc k) < 2 ^ size S
  unfolding judgement_for
  health-small i k hi =
      subst (λ (h : ℕ). h < 2 ^ size S) (sym (health-suc S ok i hi k))
      (subst (λ (m : ℕ). (judgement_for (state S i k) (reading S i (suc k))).health < 2 ^ m) (own-size S ok i hi k) (health-lt _ _ _ _))

  pub health-eq : (k : ℕ) → Agree (protocol S) k → (i i' : ℕ) → RuleFollower S i → RuleFollower S i' → health S i k ≡ health S i' k
  unfolding health
  health-eq zero ag i i' fi fi' = refl
  health-eq (suc k) ag i i' fi fi' =
      bit-ext (size S) (health S i (suc k)) (health S i' (suc k)) (health-small i k fi.below) (health-small i' k fi'.below)
      (λ j hj. ag i i' j (follower S i fi) (follower S i' fi') hj)

  -- ---- any account of the health vectors

  module _ {A : Type 0} (start : A) (account : A → ℕ → A) (i i' : ℕ) (fi : RuleFollower S i) (fi' : RuleFollower S i') where
    pub ledger-eq : (k : ℕ) → ((m : ℕ) → m ≤ k → Agree (protocol S) m) → ledger start account S i k ≡ ledger start account S i' k
    unfolding ledger
    ledger-eq zero ag = refl
    ledger-eq (suc k) ag =
        ap₂ account (ledger-eq k (λ m h. ag m (omega arith))) (health-eq (suc k) (ag (suc k) (le_refl (suc k))) i i' fi fi')

-- ---- changes that are common

module _ (S : Session) (k i : ℕ) where
  found : (o : Offer) → Accepts S i k o → Found (S.offers (suc k) i) (state S i k) o
  found o a = record { before = a.before; later = a.later; offered = a.offered; taken = a.taken }

  accepts : (o : Offer) → Found (S.offers (suc k) i) (state S i k) o → Accepts S i k o
  accepts o a = record { before = a.before; later = a.later; offered = a.offered; taken = a.taken }

  pending-is : (o : Offer) → Accepts S i k o → (ready S i k).pending ≡ pending_of o.setup o.lead
  pending-is o a = ap (λ (st : State). st.pending) (found-made (S.offers (suc k) i) (state S i k) o (found o a))

-- what is pending before the next step: what was, or the one change that was accepted
pub ready-pending : (S : Session) (last : ℕ) → Common S last → (k : ℕ) → k < last → (i i' : ℕ) → RuleFollower S i → RuleFollower S i'
    → (state S i k).pending ≡ (state S i' k).pending → (ready S i k).pending ≡ (ready S i' k).pending
ready-pending S last common k before i i' fi fi' e =
    ⊎_elim
    (λ same. ⊎_elim
    (λ same'. ap (λ (st : State). st.pending) same ∙ e ∙ ap (λ (st : State). st.pending) (sym same'))
    (λ one. let (o, f) = one in
    let a = accepts S k i' o f in
    pending-is S k i o (common k i' i o before fi' fi a) ∙ sym (pending-is S k i' o a)) (made-cases (S.offers (suc k) i') (state S i' k)))
    (λ one. let (o, f) = one in
    let a = accepts S k i o f in
    pending-is S k i o a ∙ sym (pending-is S k i' o (common k i i' o before fi fi' a))) (made-cases (S.offers (suc k) i) (state S i k))

-- ---- the books

-- a step's books follow from those before it, what is then pending, and the health vector
pub books-suc : (S : Session) → Accepted S → (i : ℕ) → i < size S → (k : ℕ)
    → books_of (state S i (suc k)) ≡ books_after (books_of (with_pending (state S i k) (ready S i k).pending)) (health S i (suc k))
unfolding after_round judgement_for aligned_for own_syndrome place_of
books-suc S ok i below k =
    ap books_of (state-suc S ok i below k)
    ∙ ap (books_after (books_of (with_pending (state S i k) (ready S i k).pending))) (sym (health-suc S ok i below k))

-- the same, in one state
pub books-ready : (S : Session) → Accepted S → (i : ℕ) → i < size S → (k : ℕ)
    → books_of (state S i (suc k)) ≡ books_after (books_of (ready S i k)) (health S i (suc k))
books-ready S ok i below k = books-suc S ok i below k ∙ ap (λ (st : State). books_after (books_of st) (health S i (suc k))) (sym (ready-is S i k))

module _ (S : Session) (ok : Accepted S) (last : ℕ) (common : Common S last) where
  module _ (i i' : ℕ) (fi : RuleFollower S i) (fi' : RuleFollower S i') where
    pub books-eq : (k : ℕ) → k ≤ last → ((m : ℕ) → m ≤ k → Agree (protocol S) m) → books_of (state S i k) ≡ books_of (state S i' k)
    unfolding fresh
    books-eq zero hk ag = ap books_of (state-zero S ok i fi.below) ∙ sym (ap books_of (state-zero S ok i' fi'.below))
    books-eq (suc k) hk ag =
        let b = books-eq k (omega arith) (λ m h. ag m (omega arith)) in
        let p = ready-pending S last common k (omega arith) i i' fi fi' (ap (λ (x : Books). x.pending) b) in
        books-suc S ok i fi.below k
        ∙ ap₂ books_after (ap₂ (λ (x : Books) (y : Pending). record { setup = x.setup; counters = x.counters; pending = y }) b p)
        (health-eq S ok (suc k) (ag (suc k) (le_refl (suc k))) i i' fi fi')
        ∙ sym (books-suc S ok i' fi'.below k)

  -- so the view is the same
  pub view-eq : (k : ℕ) → k ≤ last → ((m : ℕ) → m ≤ k → Agree (protocol S) m) → (i : ℕ) → RuleFollower S i
      → view_of S i k ≡ view_of S (first_follower (size S) (follows S)) k
  view-eq k hk ag i fi =
      ap (λ (b : Books). b.counters.view)
      (books-eq i (first_follower (size S) (follows S)) fi (rule-follower S _ (first-follower (size S) (follows S) i (follower S i fi))) k hk ag)

  -- Rule-followers that agreed in the steps before count the same rows.
  pub counting : (k i l : ℕ) → k ≤ last → ((m : ℕ) → m < k → Agree (protocol S) m) → RuleFollower S i
      → bit (view_of S i (k - 1)) l ≡ bit (view_of S (first_follower (size S) (follows S)) (k - 1)) l
  unfolding health
  counting zero i l hk ag fi =
      ap (λ (v : ℕ). bit v l) (view-eq 0 hk (λ m h i i' j fi fi' hj. let e : m ≡ 0 = omega arith in rw e refl) i fi)
  counting (suc k) i l hk ag fi =
      let e : suc k - 1 ≡ k = omega arith in
      ap (λ (v : ℕ). bit v l) (view-eq (suc k - 1) (omega arith) (λ m h. ag m (omega arith)) i fi)
