-- A change that was accepted counts down step by step, and takes effect in the step that its lead says.
use mathlib.Core.Path.{◌≡◌, ap, ◌∙◌, sym, subst}
use Prim.Native.Nat.{ℕ, zero, suc, ◌+◌, ◌-◌, ◌<◌, ◌≤◌}
use native.Mathlib.Omega.{arith}
use borrow.Author.Tests.{le-leb}
use mathlib.Core.List.{List}
use Rattle.words.proofs.Truth.{cond-true}
use Rattle.setup.specs.RoundTrip.{ShapedSetup}
use Rattle.setup.specs.declared.Setup.{Setup}
use Rattle.setup.proofs.SetupLaws.{verdict-fits}
use Rattle.changes.specs.Pending.{pending_of, renewed, counted_down}
use Rattle.changes.specs.Books.{turned, counted, books_after}
use Rattle.changes.specs.declared.Books.{Books}
use Rattle.changes.specs.declared.Pending.{Pending}
use Rattle.changes.proofs.TurnLaws.{turned-changed, turned-unchanged, turned_left, applied}
use Rattle.presence.specs.Step.{books_of, after_round, accepted_step, step_of}
use Rattle.presence.specs.Change.{change_of}
use Rattle.presence.specs.RoundTrip.{Shaped}
use Rattle.presence.specs.Applied.{Reads, stepped_by, Applied}
use Rattle.presence.specs.declared.State.{State}
use Rattle.presence.specs.Step.{Stepped}
use Rattle.presence.proofs.FrameLaws.{frame-pass, follows-lead}
use Rattle.presence.proofs.ValidLaws.{valid-fits}
use Rattle.presence.proofs.StateStepLaws.{step-accepted}
use Rattle.presence.proofs.StateChangeLaws.{ChangeTaken, change-taken}

-- ---- one step

-- an accepted step leaves the setup and the pending change of the turned books
step-turned : (st : State) (read : List ℕ) (controller : ℕ) → (step_of st read controller).number ≡ 0
    → ((step_of st read controller).state.setup ≡ (turned (books_of st)).setup) × ((step_of st read controller).state.pending ≡ (turned (books_of st)).pending)
unfolding accepted_step after_round books_after counted
step-turned st read controller accepted =
    let e = (step-accepted st read controller accepted).1 in
    (ap (λ (t : Stepped). t.state.setup) e, ap (λ (t : Stepped). t.state.pending) e)

-- one round less of a change that is two or more rounds ahead
down-of : (new : Setup) (left : ℕ) → 2 ≤ left → counted_down (pending_of new left) ≡ pending_of new (left - 1)
unfolding counted_down pending_of
down-of new left h = cond-true _ _ (le-leb 2 left h)

-- ---- the steps after a change

module _ (st : State) (new : Setup) (lead : ℕ) (r : Reads) (shaped : Shaped st) (asked : ShapedSetup new) (zero_is : (change_of st new lead).number ≡ 0) where
  abbrev after : ℕ → State
  after k = stepped_by r (change_of st new lead).state k

  -- the first k steps are accepted
  abbrev Accepted : ℕ → Type 0
  Accepted k = (m : ℕ) → m < k → (step_of (after m) (r.read (suc m)) (r.controller (suc m))).number ≡ 0

  taken : ChangeTaken st new lead
  taken = change-taken st new lead zero_is

  least : 1 ≤ lead
  least = (follows-lead st.pending lead (frame-pass st.setup st.pending new lead taken.follows).1).0

  -- the setup and the pending change of a state, after one more step
  next : (k : ℕ) → Accepted (suc k) → ((after (suc k)).setup ≡ (turned (books_of (after k))).setup) × ((after (suc k)).pending ≡ (turned (books_of (after k))).pending)
  unfolding stepped_by
  next k ok = step-turned (after k) (r.read (suc k)) (r.controller (suc k)) (ok k (omega arith))

  counts-down : (k : ℕ) → k < lead → Accepted k → ((after k).setup ≡ st.setup) × ((after k).pending ≡ pending_of new (lead - k))
  unfolding stepped_by pending_of
  counts-down zero h ok =
      let none : lead ≡ lead - 0 = omega arith in
      (ap (λ (x : State). x.setup) taken.state, ap (λ (x : State). x.pending) taken.state ∙ ap (pending_of new) none)
  counts-down (suc k) h ok =
      let (setup, pending) = counts-down k (omega arith) (λ m l. ok m (omega arith)) in
      let (s, p) = next k ok in
      let left : (after k).pending.left ≡ lead - k = ap (λ (x : Pending). x.left) pending in
      let e = turned-unchanged (books_of (after k)) (λ one. omega arith) in
      let step : lead - k - 1 ≡ lead - suc k = omega arith in (
        s ∙ ap (λ (b : Books). b.setup) e ∙ setup,
        p ∙ ap (λ (b : Books). b.pending) e ∙ ap counted_down pending ∙ down-of new (lead - k) (omega arith) ∙ ap (pending_of new) step,
      )

  -- the setup that was asked for
  as-asked : (left : ℕ) → renewed st.setup (pending_of new left) ≡ new
  as-asked left =
      applied st.setup new left (valid-fits st taken.valid).setup (verdict-fits new taken.asked) shaped.setup asked
      (frame-pass st.setup st.pending new lead taken.follows).0

  takes-effect : (m : ℕ) → suc m ≡ lead → Accepted (suc m) → ((after (suc m)).setup ≡ new) × ((after (suc m)).pending.left ≡ 0)
  unfolding pending_of
  takes-effect m e ok =
      let (setup, pending) = counts-down m (omega arith) (λ i l. ok i (omega arith)) in
      let (s, p) = next m ok in
      let left : (after m).pending.left ≡ lead - m = ap (λ (x : Pending). x.left) pending in
      let one : (after m).pending.left ≡ 1 = omega arith in
      let t = turned-changed (books_of (after m)) one in (
        s ∙ ap (λ (b : Books). b.setup) t ∙ ap (λ (x : Setup). renewed x (after m).pending) setup ∙ ap (renewed st.setup) pending ∙ as-asked (lead - m),
        ap (λ (x : Pending). x.left) p ∙ turned_left (books_of (after m)) ∙ omega (arith, one),
      )

  stays : (m d : ℕ) → suc m ≡ lead → Accepted (suc m + d) → ((after (suc m + d)).setup ≡ new) × ((after (suc m + d)).pending.left ≡ 0)
  stays m zero e ok =
      let k : suc m + 0 ≡ suc m = omega arith in
      subst (λ (i : ℕ). ((after i).setup ≡ new) × ((after i).pending.left ≡ 0)) (sym k) (takes-effect m e (λ i l. ok i (omega arith)))
  stays m (suc d) e ok =
      let k : suc m + suc d ≡ suc (suc m + d) = omega arith in
      let more : Accepted (suc (suc m + d)) = λ i l. ok i (omega arith) in
      let (setup, left) = stays m d e (λ i l. ok i (omega arith)) in
      let (s, p) = next (suc m + d) more in
      let t = turned-unchanged (books_of (after (suc m + d))) (λ one. omega arith) in
      subst (λ (i : ℕ). ((after i).setup ≡ new) × ((after i).pending.left ≡ 0)) (sym k)
      (s ∙ ap (λ (b : Books). b.setup) t ∙ setup, ap (λ (x : Pending). x.left) p ∙ turned_left (books_of (after (suc m + d))) ∙ omega (arith, left))

  from_then : (k : ℕ) → lead ≤ k → Accepted k → (after k).setup ≡ new
  from_then k h ok =
      let e : suc (lead - 1) ≡ lead = omega (arith, least) in
      let i : suc (lead - 1) + (k - lead) ≡ k = omega (arith, least) in
      subst (λ (x : ℕ). (after x).setup ≡ new) i (stays (lead - 1) (k - lead) e (λ m l. ok m (omega arith))).0

pub is-applied : Applied
is-applied = record {
  before = λ st new lead r k shaped asked accepted h ok. (counts-down st new lead r shaped asked accepted k h ok).0;
  after = λ st new lead r k shaped asked accepted h ok. from_then st new lead r shaped asked accepted k h ok;
}
