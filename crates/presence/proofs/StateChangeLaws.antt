-- What a change answers: accepted, what it gives; refused, that the state stays. An accepted change gives a valid state.
use Rattle.std.specs.Prelude.{Ok, Err}
use mathlib.Core.Path.{◌≡◌, ap, ap₂, ◌∙◌, subst, sym}
use mathlib.Core.Logic.{◌≢◌}
use Prim.Native.Nat.{ℕ}
use borrow.Author.Tests.{eq-eqb, ne_eqb}
use Rattle.words.specs.Verdict.{Verdict, accepted, is_accepted}
use Rattle.words.specs.Refusal.{refusal_told}
use Rattle.words.specs.declared.Refusal.{Refusal}
use Rattle.words.proofs.Truth.{cond-true, cond-false}
use Rattle.words.proofs.VerdictLaws.{and-then-pass, and-then-next}
use Rattle.setup.specs.Check.{setup_verdict}
use Rattle.setup.specs.declared.Setup.{Setup}
use Rattle.setup.proofs.SetupLaws.{verdict-fits}
use Rattle.changes.specs.Pending.{pending_of}
use Rattle.changes.specs.Frame.{frame_verdict}
use Rattle.changes.specs.declared.Pending.{Pending}
use Rattle.presence.specs.Valid.{state_verdict, Valid}
use Rattle.presence.specs.Change.{new_verdict, change_verdict, with_pending, change_of, changed_told}
use Rattle.presence.specs.declared.State.{State}
use Rattle.presence.proofs.ValidLaws.{StateFits, valid-fits, fits-valid, change-fits}
use Rattle.presence.proofs.StateRoundLaws.{refused-by}

pub change-refused : (st : State) (new : Setup) (lead : ℕ) → (change_of st new lead).number ≢ 0 → (change_of st new lead).state ≡ st
unfolding change_of
change-refused st new lead f = cond-false _ _ (ne_eqb (change_verdict st new lead).number 0 f)

-- what an accepted change has passed, and what it gives
pub record ChangeTaken (st : State) (new : Setup) (lead : ℕ) : Type 0 where
  pub valid : Valid st
  pub asked : (setup_verdict new).number ≡ 0
  pub follows : (frame_verdict st.setup st.pending new lead).number ≡ 0
  pub state : (change_of st new lead).state ≡ with_pending st (pending_of new lead)

pub change-taken : (st : State) (new : Setup) (lead : ℕ) → (change_of st new lead).number ≡ 0 → ChangeTaken st new lead
unfolding change_of change_verdict new_verdict
change-taken st new lead zero =
    let (v, e) = and-then-pass (state_verdict st) (new_verdict st new lead) zero in
    let (a, b) = and-then-pass (setup_verdict new) (frame_verdict st.setup st.pending new lead) e in
    record { valid = v; asked = a; follows = b; state = cond-true _ _ (eq-eqb (change_verdict st new lead).number 0 zero) }

-- whatever it answers, by the state's own check alone: a valid state takes what passes the numbers of the new setup, 23 and 24
pub change-verdict : (st : State) (new : Setup) (lead : ℕ) → Valid st → (change_of st new lead).number ≡ (new_verdict st new lead).number
unfolding change_of change_verdict
change-verdict st new lead v = ap (λ (x : Verdict). x.number) (and-then-next (state_verdict st) (new_verdict st new lead) v)

pub change-fit : (st : State) (new : Setup) (lead : ℕ) → (change_of st new lead).number ≡ 0 → StateFits (change_of st new lead).state
change-fit st new lead zero =
    let t = change-taken st new lead zero in
    subst StateFits (sym t.state) (change-fits st new lead (valid-fits st t.valid) (verdict-fits new t.asked) t.follows)

pub change-valid : (st : State) (new : Setup) (lead : ℕ) → (change_of st new lead).number ≡ 0 → Valid (change_of st new lead).state
change-valid st new lead zero = fits-valid _ (change-fit st new lead zero)

-- ---- as the code makes it

module _ (st : State) (new : Setup) (lead : ℕ) where
  pub change-stays : (x : Refusal) → refusal_told x ≡ change_verdict st new lead → changed_told st (Err x) ≡ change_of st new lead
  unfolding change_of
  change-stays x t =
      ap₂ (λ (v : Verdict) (y : State). record { number = v.number; index = v.index; state = y }) t
      (sym (cond-false (with_pending st (pending_of new lead)) st (refused-by x t)))

  pub change-made : {p : Pending} → accepted ≡ change_verdict st new lead → p ≡ pending_of new lead → changed_told st (Ok (with_pending st p)) ≡ change_of st new lead
  unfolding change_of
  change-made t h =
      ap₂ (λ (v : Verdict) (y : State). record { number = v.number; index = v.index; state = y }) t
      (ap (with_pending st) h ∙ sym (cond-true (with_pending st (pending_of new lead)) st (ap is_accepted (sym t))))
