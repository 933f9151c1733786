-- A change of limits: a whole setup with new P, R and criticalities, and how many rounds ahead it takes the old one's place. (document 02, E10)
use Rattle.std.specs.Prelude.{ℕ, Result, Ok, Err, cond}
use Rattle.words.specs.Verdict.{Verdict, is_accepted, and_then}
use Rattle.words.specs.Refusal.{code}
use Rattle.words.specs.declared.Refusal.{Refusal}
use Rattle.setup.specs.Check.{setup_verdict}
use Rattle.setup.specs.declared.Setup.{Setup}
use Rattle.changes.specs.Pending.{pending_of}
use Rattle.changes.specs.Frame.{frame_verdict}
use Rattle.changes.specs.declared.Pending.{Pending}
use Rattle.presence.specs.Valid.{state_verdict}
use Rattle.presence.specs.declared.State.{State}

-- the numbers of the new setup, then 23 and 24
unfoldable pub new_verdict : State → Setup → ℕ → Verdict
new_verdict st new lead = and_then (setup_verdict new) (frame_verdict st.setup st.pending new lead)

-- the state whole, before the new setup
unfoldable pub change_verdict : State → Setup → ℕ → Verdict
change_verdict st new lead = and_then (state_verdict st) (new_verdict st new lead)

-- a state with another pending change
abbrev pub with_pending : State → Pending → State
with_pending st pending = record {
  setup = st.setup;
  own = st.own;
  counters = st.counters;
  previous = st.previous;
  latest = st.latest;
  earlier = st.earlier;
  pending = pending;
  views = st.views;
}

-- what a change answers: the number and the index, 0 and 0 where nothing is refused, and the state
pub record Changed : Type 0 where
  pub number : ℕ
  pub index : ℕ
  pub state : State

-- what a change answers: the state with the change pending, or as it was where the change is refused
unfoldable pub change_of : State → Setup → ℕ → Changed
change_of st new lead =
    let v = change_verdict st new lead in
    record { number = v.number; index = v.index; state = cond (is_accepted v) (with_pending st (pending_of new lead)) st }

-- what a change of a state answers as code has it; after a refusal the state is as it was
abbrev pub changed_told : State → Result State Refusal → Changed
changed_told st (Ok next) = record { number = 0; index = 0; state = next }
changed_told st (Err e) = record { number = code e.number; index = e.index; state = st }
