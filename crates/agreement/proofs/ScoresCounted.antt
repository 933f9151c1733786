-- The scores of a module in a session are those of its health vectors, so they count charges as those do; and equal counters hold equal bits.
-- Where the setup fades nothing is ever pending, so every step counts with the setup that the module was opened from.
use Prim.Native.Nat.{ℕ, zero, suc, ◌+◌, ◌<◌, ◌≤◌}
use mathlib.Core.Path.{◌≡◌, refl, sym, ap, ap₂, ◌∙◌}
use mathlib.Core.Bool.{Bool, true, cond}
use mathlib.Core.List.{List}
use native.Mathlib.Omega.{arith}
use lib.Ieee.{binary64, to_bits}
use Rattle.words.specs.Bits.{bit}
use Rattle.words.proofs.BitLaws.{bit-full}
use Rattle.doubles.specs.Double.{double}
use Rattle.doubles.specs.Array.{entry}
use Rattle.doubles.proofs.DoubleArrayLaws.{zeros-at}
use Rattle.setup.specs.Limits.{fades}
use Rattle.setup.specs.declared.Setup.{Setup}
use Rattle.setup.proofs.BoundLaws.{fading-fit}
use Rattle.setup.proofs.SetupLaws.{verdict-fits}
use Rattle.accounts.specs.Round.{counters_of}
use Rattle.accounts.specs.TakenBack.{counters_after}
use Rattle.accounts.specs.Charges.{NoneCharged, charges_by}
use Rattle.accounts.proofs.Charges.{charges}
use Rattle.accounts.specs.declared.Counters.{Counters}
use Rattle.changes.specs.Books.{turned, counted, books_after}
use Rattle.changes.specs.declared.Books.{Books}
use Rattle.changes.proofs.TurnLaws.{unchanged, turned-unchanged, fading-none}
use Rattle.presence.specs.Opening.{fresh}
use Rattle.presence.specs.Step.{books_of}
use Rattle.presence.specs.declared.State.{State}
use Rattle.agreement.specs.Session.{Offer, Session, Accepted, size, state, ready, health}
use Rattle.agreement.specs.Life.{Life}
use Rattle.agreement.specs.BackInView.{sees}
use Rattle.agreement.specs.ScoresCounted.{score_held, charges_seen, ScoresCounted}
use Rattle.agreement.proofs.Steps.{ready-is, ready_held, state-zero, life}
use Rattle.agreement.proofs.Shared.{books-ready}
use Rattle.agreement.proofs.Demand.{when-between, demand-3}

-- the counters of a fresh module
abbrev fresh-counters : Session → Counters
fresh-counters S = (fresh S.setup 1).counters

module _ (S : Session) (ok : Accepted S) (fading : fades S.setup.limits ≡ true) (i : ℕ) (hi : i < size S) where
  none-due : (k : ℕ) → (ready S i k).pending.left ≡ 1 → ⊥
  none-due k one =
      let d = ready_held S ok i hi k in
      let z = fading-none (ready S i k).setup (ready S i k).pending d.fits.pending (d.fades-is ∙ fading) in
      absurd (omega arith)

  -- a step's books: the setup stays
  books-fading : (k : ℕ) → turned (books_of (ready S i k)) ≡ unchanged (books_of (ready S i k))
  books-fading k = turned-unchanged (books_of (ready S i k)) (none-due k)

  setup-stays : (k : ℕ) → (state S i k).setup ≡ S.setup
  unfolding fresh books_after counted
  setup-stays zero = ap (λ (st : State). st.setup) (state-zero S ok i hi)
  setup-stays (suc k) =
      ap (λ (b : Books). b.setup) (books-ready S ok i hi k)
      ∙ ap (λ (b : Books). b.setup) (books-fading k)
      ∙ ap (λ (st : State). st.setup) (ready-is S i k)
      ∙ setup-stays k

  counters-are : (k : ℕ) → (state S i k).counters ≡ counters_after S.setup (health S i) (fresh-counters S) k
  unfolding fresh books_after counted counters_after
  counters-are zero = ap (λ (st : State). st.counters) (state-zero S ok i hi)
  counters-are (suc k) =
      ap (λ (b : Books). b.counters) (books-ready S ok i hi k)
      ∙ ap (λ (b : Books). counters_of b.setup (health S i (suc k)) b.counters) (books-fading k)
      ∙ ap (λ (st : State). counters_of st.setup (health S i (suc k)) st.counters) (ready-is S i k)
      ∙ ap₂ (λ (s : Setup) (c : Counters). counters_of s (health S i (suc k)) c) (setup-stays k) (counters-are k)

none-charged : (S : Session) → size S ≤ 16 → NoneCharged S.setup (fresh-counters S)
unfolding fresh
none-charged S small = record { view = λ j h. bit-full (size S) j h; score = λ j h. zeros-at j (omega arith) }

module _ (S : Session) (ok : Accepted S) (fading : fades S.setup.limits ≡ true) (i j : ℕ) (hi : i < size S) (hj : j < size S) where
  abbrev after : ℕ → Counters
  after k = counters_after S.setup (health S i) (fresh-counters S) k

  seen-is : (k : ℕ) → sees S i k j ≡ bit (after k).view j
  seen-is k = ap (λ (c : Counters). bit c.view j) (counters-are S ok fading i hi k)

  -- the charges that its health vectors count
  abbrev charged : (ℕ → ℕ) → ℕ → ℕ
  charged kept k = charges_by kept S.setup (health S i) (fresh-counters S) k j

  -- are those that module i counts
  seen-charges : (kept : ℕ → ℕ) (k : ℕ) → charges_seen kept S i k j ≡ charged kept k
  unfolding charges_seen charges_by
  seen-charges kept zero = refl
  seen-charges kept (suc k) =
      let b = bit (health S i (suc k)) j in
      let n = charged kept k in
      ap (λ (m : ℕ). cond (sees S i k j) (cond b (kept m) (m + 1)) (cond (sees S i (suc k) j) 0 m)) (seen-charges kept k)
      ∙ ap (λ (x : Bool). cond x (cond b (kept n) (n + 1)) (cond (sees S i (suc k) j) 0 n)) (seen-is k)
      ∙ ap (λ (x : Bool). cond (bit (after k).view j) (cond b (kept n) (n + 1)) (cond x 0 n)) (seen-is (suc k))

  -- so what is said of the score by its health vectors is said of the score that it holds
  score-seen : (kept : ℕ → ℕ) (k : ℕ) (os : List Offer) (st : State) (h : ℕ) → Life S i k os st h → entry (after k).score j ≡ double (charged kept k)
      → score_held st j ≡ double (charges_seen kept S i k j)
  score-seen kept k os st h a e =
      ap (λ (t : State). score_held t j) (when-between S i k h st os (life S ok i hi k h os st a))
      ∙ ap (λ (c : Counters). entry c.score j) (counters-are S ok fading i hi k)
      ∙ e
      ∙ ap double (sym (seen-charges kept k))

pub scores-counted : ScoresCounted
scores-counted = record {
  exact = λ S ok limit form i j k hi hj os st h a.
      let fits = verdict-fits S.setup ok in
      score-seen S ok (ap fades form) i j hi hj (λ before. before) k os st h a
      (charges.exact S.setup limit (health S i) (fresh-counters S) k j form (fading-fit fits.limits form).limit fits.most
      (none-charged S fits.most) hj);
  recent = λ S ok limit form i j k hi hj os st h a.
      let fits = verdict-fits S.setup ok in
      score-seen S ok (ap fades form) i j hi hj (λ before. 0) k os st h a
      (charges.recent S.setup limit (health S i) (fresh-counters S) k j form (fading-fit fits.limits form).limit fits.most
      (none-charged S fits.most) hj);
  bits = λ S ok last bound common k pos hk lim i i' j h h' os os' st st' fi fi' a a'.
      ap (λ (c : Counters). to_bits binary64 (entry c.score j)) ((demand-3.agreement S ok last bound common k pos hk lim).agree i i' h h' os os' st st' fi fi' a a').1;
}
