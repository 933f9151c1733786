-- A module's life in a session: its opening, one step a round, the changes that it is offered between, and refused calls anywhere.
-- (document 01, "A session"; document 02, E10)
use Rattle.std.specs.Prelude.{ℕ, suc, ◌+◌, ◌≢◌, List, [], ◌∷◌}
use Rattle.words.specs.Bits.{full}
use Rattle.setup.specs.declared.Setup.{Setup}
use Rattle.presence.specs.Opening.{open_of}
use Rattle.presence.specs.Step.{step_of}
use Rattle.presence.specs.Change.{change_of}
use Rattle.presence.specs.declared.State.{State}
use Rattle.agreement.specs.Session.{Offer, Session, answer_at}

-- Module i (its number less one): the rounds stepped, the changes that the session still offers it before its next step, the state it holds, and the
-- health vector that it answered last (all ones before the first step).
pub data Life (S : Session) (i : ℕ) : ℕ → List Offer → State → ℕ → Type 0 where
  -- it is opened from the setup with its own number
  opens : Life S i 0 (S.offers 1 i) (open_of S.setup (i + 1)).state (full S.setup.n)
  -- it makes the step of the next round, on the session's read, when no change is left to come
  steps : {k h : ℕ} {st : State} → Life S i k [] st h
      → Life S i (suc k) (S.offers (suc (suc k)) i) (answer_at S i (suc k) st).state (answer_at S i (suc k) st).health
  -- the next change that the session offers, accepted or refused
  changes : {k h : ℕ} {st : State} {o : Offer} {os : List Offer} → Life S i k (o ∷ os) st h → Life S i k os (change_of st o.setup o.lead).state h
  -- a refused step, on any read: the state that it hands back is held
  refused-step : {k h : ℕ} {st : State} {os : List Offer} (read : List ℕ) (controller : ℕ) → Life S i k os st h → (step_of st read controller).number ≢ 0
      → Life S i k os (step_of st read controller).state h
  -- a refused change, of any setup and lead, that the session does not name: the same
  refused-change : {k h : ℕ} {st : State} {os : List Offer} (s : Setup) (lead : ℕ) → Life S i k os st h → (change_of st s lead).number ≢ 0
      → Life S i k os (change_of st s lead).state h
  -- a refused opening, of any setup: nothing of it is held
  refused-opening : {k h : ℕ} {st : State} {os : List Offer} (s : Setup) (own : ℕ) → Life S i k os st h → (open_of s own).number ≢ 0 → Life S i k os st h
