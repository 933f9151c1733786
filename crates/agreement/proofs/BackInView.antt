-- The account that a module keeps of another over a session: each step counts it with the limits that then hold, and a change before it leaves the
-- return count and brings nobody back.
use Prim.Native.Nat.{ℕ, zero, suc, ◌+◌, ◌-◌, ◌≤◌, ◌<◌}
use mathlib.Core.Path.{◌≡◌, refl, sym, ap, ◌∙◌, subst}
use mathlib.Core.Bool.{Bool, true, false, cond}
use mathlib.Core.Logic.{◌⊎◌, inl, inr, ⊎_elim, ◌≢◌}
use mathlib.Core.List.{List}
use native.Mathlib.Omega.{arith}
use lib.Dec.{leb}
use lib.ListN.{get_or, get_or-replicate}
use borrow.Author.Tests.{leb-true, lt-leb}
use Rattle.words.specs.Bits.{bit}
use Rattle.setup.specs.Limits.{fades}
use Rattle.setup.specs.declared.Setup.{Setup}
use Rattle.setup.specs.declared.Limits.{Limits}
use Rattle.setup.specs.declared.Limits.TheVariants.{Counts}
use Rattle.accounts.specs.Account.{uncounted, charged, accounted}
use Rattle.accounts.specs.Round.{accounted_by, returned_by, account_at, accounted_at, counters_of}
use Rattle.accounts.specs.declared.Account.{Account}
use Rattle.accounts.specs.declared.Counters.{Counters}
use Rattle.accounts.proofs.RoundLaws.{accounted-at}
use Rattle.accounts.proofs.Returning.{returned-on, comes_back, came-back, as-returned, never_back, bad-stays}
use Rattle.changes.specs.Pending.{penalty_limit_of, reward_limit_of}
use Rattle.changes.specs.Adjust.{with_counters, forgiven, settled, adjusted, adjusted_at}
use Rattle.changes.specs.Books.{turned, counted, books_after}
use Rattle.changes.specs.declared.Books.{Books}
use Rattle.changes.proofs.AdjustLaws.{adjusted-at, adjusted-out}
use Rattle.changes.proofs.PendingLaws.{counts_of}
use Rattle.changes.proofs.TurnLaws.{turned-both, turned-unchanged, turned-size, turned-q, turned-returns, turned-setup-fits}
use Rattle.presence.specs.Opening.{fresh}
use Rattle.presence.specs.Step.{books_of, found_view}
use Rattle.presence.specs.declared.State.{State}
use Rattle.agreement.specs.Session.{Session, Accepted, size, state, ready, health}
use Rattle.agreement.specs.BackInView.{sees, finds, GoodRounds, BackInView}
use Rattle.agreement.proofs.Steps.{small, held, ready_held, ready-is, state-zero}
use Rattle.agreement.proofs.Shared.{books-ready}

-- ---- what a change leaves of an account

-- who is out stays out
turned-out : (b : Books) → b.setup.n ≤ 16 → (j : ℕ) → j < b.setup.n → (account_at b.counters j).present ≡ false
    → (account_at (turned b).counters j).present ≡ false
unfolding adjusted_at
turned-out b small j h e =
    turned-both b (λ (t : Books). (account_at t.counters j).present ≡ false)
    (λ _. ap (λ (a : Account). a.present) (adjusted-at b.setup.n b.pending b.counters small j h) ∙ adjusted-out _ _ _ (account_at b.counters j) e)
    (λ _. e)

-- who came back with penalty P leaves by the new P, or stays with it
adjusted-back : (p p' r' k : ℕ) (a : Account) → 1 ≤ r' → p' ≤ p → a ≡ uncounted true p 0
    → ((adjusted p' r' k a).present ≡ false) ⊎ ((adjusted p' r' k a ≡ uncounted true p 0) × (p ≡ p'))
unfolding adjusted forgiven settled
adjusted-back p p' r' k a least le e =
    subst (λ (x : Account). ((adjusted p' r' k x).present ≡ false) ⊎ ((adjusted p' r' k x ≡ uncounted true p 0) × (p ≡ p'))) (sym e)
    (go (leb r' 0) refl (leb p p') refl)
  where
    go : (b : Bool) → leb r' 0 ≡ b → (c : Bool) → leb p p' ≡ c
        → ((settled p' k (cond b (with_counters (uncounted true p 0) true 0 0) (uncounted true p 0))).present ≡ false)
        ⊎ ((settled p' k (cond b (with_counters (uncounted true p 0) true 0 0) (uncounted true p 0)) ≡ uncounted true p 0) × (p ≡ p'))
    go true t c q = absurd (omega (arith, leb-true r' 0 t))
    go false f true t = inr (rw t refl, omega (arith, leb-true p p' t))
    go false f false t = inl (rw t refl)

-- ---- the account of module j at module i

module _ (S : Session) (ok : Accepted S) (i j : ℕ) (hi : i < size S) (hj : j < size S) where
  -- what step k + 1 counts with
  abbrev books : ℕ → Books
  books k = turned (books_of (ready S i k))

  abbrev account : ℕ → Account
  account k = account_at (state S i k).counters j

  abbrev found : ℕ → Account
  found k = account_at (books k).counters j

  abbrev healthy : ℕ → Bool
  healthy k = bit (health S i k) j

  sized : (k : ℕ) → (books k).setup.n ≡ size S
  sized k = turned-size (books_of (ready S i k)) ∙ (ready_held S ok i hi k).size_is

  waits : (k : ℕ) → (books k).setup.q ≡ S.setup.q
  waits k = turned-q (books_of (ready S i k)) ∙ (ready_held S ok i hi k).q-is

  setup-after : (k : ℕ) → (state S i (suc k)).setup ≡ (books k).setup
  unfolding books_after counted
  setup-after k = ap (λ (b : Books). b.setup) (books-ready S ok i hi k)

  counters-after : (k : ℕ) → (state S i (suc k)).counters ≡ counters_of (books k).setup (health S i (suc k)) (books k).counters
  unfolding books_after counted
  counters-after k = ap (λ (b : Books). b.counters) (books-ready S ok i hi k)

  round : (k : ℕ)
      → account (suc k) ≡ accounted_by (books k).setup.limits S.setup.q (get_or (books k).setup.criticality j 0) (healthy (suc k)) (found k)
  unfolding accounted_at
  round k =
      let b = books k in
      ap (λ (c : Counters). account_at c j) (counters-after k)
      ∙ accounted-at b.setup (health S i (suc k)) b.counters (subst (λ (n : ℕ). n ≤ 16) (sym (sized k)) (small S ok)) j
      (subst (λ (n : ℕ). j < n) (sym (sized k)) hj)
      ∙ ap (λ (q : ℕ). accounted_by b.setup.limits q (get_or b.setup.criticality j 0) (healthy (suc k)) (found k)) (waits k)

  same_count : (k : ℕ) → (found k).returns ≡ (account k).returns
  unfolding account_at
  same_count k =
      ap (λ (r : List ℕ). get_or r j 0) (turned-returns (books_of (ready S i k)) ∙ ap (λ (x : State). x.counters.returns) (ready-is S i k))

  none-counted : (account 0).returns ≡ 0
  unfolding account_at fresh
  none-counted =
      ap (λ (x : State). get_or x.counters.returns j 0) (state-zero S ok i hi)
      ∙ get_or-replicate {A = ℕ} 16 j 0 0 (omega (arith, small S ok))

  -- ---- the bits of the views are those of the accounts

  viewed : (k : ℕ) (b : Bool) → sees S i k j ≡ b → (account k).present ≡ b
  unfolding account_at
  viewed k b e = e

  shown : (k : ℕ) (b : Bool) → (account k).present ≡ b → sees S i k j ≡ b
  unfolding account_at
  shown k b e = e

  found-viewed : (k : ℕ) (b : Bool) → finds S i k j ≡ b → (found k).present ≡ b
  unfolding account_at found_view
  found-viewed k b e = e

  found-shown : (k : ℕ) (b : Bool) → (found k).present ≡ b → finds S i k j ≡ b
  unfolding account_at found_view
  found-shown k b e = e

  -- ---- what is promised

  not-by-change : (k : ℕ) → sees S i k j ≡ false → finds S i k j ≡ false
  not-by-change k e =
      let d = ready_held S ok i hi k in
      let same = ap (λ (x : State). (account_at x.counters j).present) (ready-is S i k) in
      found-shown k false
      (turned-out (books_of (ready S i k)) (subst (λ (n : ℕ). n ≤ 16) (sym d.size_is) (small S ok)) j (subst (λ (n : ℕ). j < n) (sym d.size_is) hj)
      (same ∙ viewed k false e))

  as_seen : (k : ℕ) → (ready S i k).pending.left ≢ 1 → finds S i k j ≡ sees S i k j
  unfolding found_view
  as_seen k f =
      ap (λ (b : Books). bit b.counters.view j) (turned-unchanged (books_of (ready S i k)) f)
      ∙ ap (λ (x : State). bit x.counters.view j) (ready-is S i k)

  returns : (k : ℕ) → GoodRounds S i k j → sees S i (suc k) j ≡ true
  returns k g =
      shown (suc k) true
      (ap (λ (a : Account). a.present)
      (comes_back S.setup.q (λ m. (books m).setup.limits) (λ m. get_or (books m).setup.criticality j 0) healthy account found round same_count k g.some
      g.played (λ m f h. found-viewed m false (g.away m f h)) (λ m f h. viewed m false (g.out m f h)) g.healthy)
      ∙ returned-on (books k).setup.limits)

  only_then : (k : ℕ) → finds S i k j ≡ false → sees S i (suc k) j ≡ true → GoodRounds S i k j
  only_then k off on =
      let b = came-back S.setup.q (λ m. (books m).setup.limits) (λ m. get_or (books m).setup.criticality j 0) healthy account found round same_count
      none-counted k (found-viewed k false off) (viewed (suc k) true on) in
      record {
        some = b.some;
        played = b.played;
        away = λ m f h. found-shown m false (b.away m f h);
        out = λ m f h. shown m false (b.out m f h);
        healthy = b.healthy;
      }

  never : (k d : ℕ) → S.setup.q ≡ 0 → sees S i k j ≡ false → sees S i (k + d) j ≡ false
  never k zero z out = let e : k + 0 ≡ k = omega arith in ap (λ m. sees S i m j) e ∙ out
  never k (suc d) z out =
      let e : k + suc d ≡ suc (k + d) = omega arith in
      ap (λ m. sees S i m j) e
      ∙ shown (suc (k + d)) false
      (never_back S.setup.q (λ m. (books m).setup.limits) (λ m. get_or (books m).setup.criticality j 0) healthy account found round same_count z (k + d)
      (found-viewed (k + d) false (not-by-change (k + d) (never k d z out))))

  -- ---- back, and charged at once

  module _ (counting : fades S.setup.limits ≡ false) (k : ℕ) where
    abbrev next : State
    next = ready S i (suc k)

    -- P before the second round, and as it is counted with
    abbrev p : ℕ
    p = penalty_limit_of (state S i (suc k)).setup.limits

    -- by counts, with some criticality
    counts-next : (books (suc k)).setup.limits
        ≡ Counts (penalty_limit_of (books (suc k)).setup.limits) (reward_limit_of (books (suc k)).setup.limits)
    counts-next =
        counts_of (books (suc k)).setup.limits
        (ap (λ (s : Setup). fades s.limits) (sym (setup-after (suc k))) ∙ (held S ok i hi (suc (suc k))).fades-is ∙ counting)

    charge-next : 1 ≤ get_or (books (suc k)).setup.criticality j 0
    charge-next =
        ((turned-setup-fits (books_of next) (ready_held S ok i hi (suc k)).fits.pending (ready_held S ok i hi (suc k)).fits.setup
        ).each j (subst (λ (n : ℕ). j < n) (sym (sized (suc k))) hj)).least

    -- as it is back, so it is held before the second round
    back_is : finds S i k j ≡ false → sees S i (suc k) j ≡ true → account_at next.counters j ≡ uncounted true p 0
    back_is off on =
        let form : (books k).setup.limits ≡ Counts (penalty_limit_of (books k).setup.limits) (reward_limit_of (books k).setup.limits) =
        counts_of (books k).setup.limits
        (ap (λ (s : Setup). fades s.limits) (sym (setup-after k)) ∙ (held S ok i hi (suc k)).fades-is ∙ counting) in
        ap (λ (x : State). account_at x.counters j) (ready-is S i (suc k))
        ∙ as-returned S.setup.q (λ m. (books m).setup.limits) (λ m. get_or (books m).setup.criticality j 0) healthy account found round same_count k
        (found-viewed k false off) (viewed (suc k) true on)
        ∙ ap returned_by form
        ∙ ap (λ (s : Setup). uncounted true (penalty_limit_of s.limits) 0) (sym (setup-after k))

    -- a change puts it out, or leaves it with penalty P
    Left : Books → Type 0
    Left t = penalty_limit_of t.setup.limits ≤ p
        → ((account_at t.counters j).present ≡ false) ⊎ (account_at t.counters j ≡ uncounted true (penalty_limit_of t.setup.limits) 0)

    left : account_at next.counters j ≡ uncounted true p 0 → Left (books (suc k))
    unfolding Left adjusted_at
    left e =
        let d = ready_held S ok i hi (suc k) in
        let b = books_of next in
        turned-both b Left
        (λ one le.
        let fits = d.fits.pending.some (omega arith) in
        let at = adjusted-at b.setup.n b.pending b.counters (subst (λ (n : ℕ). n ≤ 16) (sym d.size_is) (small S ok)) j
        (subst (λ (n : ℕ). j < n) (sym d.size_is) hj) in
        ⊎_elim (λ off. inl (ap (λ (a : Account). a.present) at ∙ off))
        (λ both. inr (at ∙ both.0 ∙ ap (λ (m : ℕ). uncounted true m 0) both.1))
        (adjusted-back p b.pending.p b.pending.r (get_or b.pending.criticality j 0) (account_at b.counters j) fits.limits.r-least le e))
        (λ _ le. inr (e ∙ ap (λ (x : State). uncounted true (penalty_limit_of x.setup.limits) 0) (sym (ready-is S i (suc k)))))

    charged-out : (l : Limits) (p' r' charge : ℕ) (h : Bool) (a : Account) → l ≡ Counts p' r' → h ≡ false → a ≡ uncounted true p' 0 → 1 ≤ charge
        → (accounted_by l S.setup.q charge h a).present ≡ false
    unfolding accounted_by accounted charged
    charged-out l p' r' charge h a form bad e least =
        (λ x. (accounted_by (form x) S.setup.q charge (bad x) (e x)).present) ∙ lt-leb (p' + charge) p' (omega arith)

    leaves : finds S i k j ≡ false → sees S i (suc k) j ≡ true → penalty_limit_of (state S i (suc (suc k))).setup.limits ≤ p
        → healthy (suc (suc k)) ≡ false → sees S i (suc (suc k)) j ≡ false
    unfolding Left
    leaves off on le bad =
        shown (suc (suc k)) false
        (⊎_elim
        (λ out. bad-stays S.setup.q (λ m. (books m).setup.limits) (λ m. get_or (books m).setup.criticality j 0) healthy account found round same_count (suc k) out bad)
        (λ e. ap (λ (a : Account). a.present) (round (suc k))
        ∙ charged-out (books (suc k)).setup.limits _ _ (get_or (books (suc k)).setup.criticality j 0) (healthy (suc (suc k))) (found (suc k)) counts-next bad e
        charge-next)
        (left (back_is off on) (subst (λ (s : Setup). penalty_limit_of s.limits ≤ p) (setup-after (suc k)) le)))

pub back-in-view : BackInView
back-in-view = record {
  returns = λ S ok i j k hi hj g. returns S ok i j hi hj k g;
  only_then = λ S ok i j k hi hj off on. only_then S ok i j hi hj k off on;
  not-by-change = λ S ok i j k hi hj out. not-by-change S ok i j hi hj k out;
  as_seen = λ S ok i j k hi hj f. as_seen S ok i j hi hj k f;
  leaves-at-once = λ S ok counting i j k hi hj off on le bad. leaves S ok i j hi hj counting k off on le bad;
  never = λ S ok i j k m hi hj z out l.
      let e : m ≡ k + (m - k) = omega arith in
      ap (λ x. sees S i x j) e ∙ never S ok i j hi hj k (m - k) z out;
}
