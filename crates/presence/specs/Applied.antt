-- An applied change leaves exactly the setup that was asked for, in the step that its lead says, and until then the old one holds. (document 02, E10)
-- Proved in proofs/Applied.antt.
use Rattle.std.specs.Prelude.{ℕ, zero, suc, ◌≤◌, ◌<◌, ◌≡◌, List}
use Rattle.setup.specs.RoundTrip.{ShapedSetup}
use Rattle.setup.specs.declared.Setup.{Setup}
use Rattle.presence.specs.Step.{step_of}
use Rattle.presence.specs.Change.{change_of}
use Rattle.presence.specs.RoundTrip.{Shaped}
use Rattle.presence.specs.declared.State.{State}

-- a read and the controller bits of each step
pub record Reads : Type 0 where
  pub read : ℕ → List ℕ
  pub controller : ℕ → ℕ

-- the state after k steps
unfoldable pub stepped_by : Reads → State → ℕ → State
stepped_by r st zero = st
stepped_by r st (suc k) = (step_of (stepped_by r st k) (r.read (suc k)) (r.controller (suc k))).state

-- of every state, every accepted change of it, and every accepted steps after it
pub record Applied : Type 0 where
  -- before the step that the lead says, the old setup holds, with so many rounds left
  pub before : (st : State) (new : Setup) (lead : ℕ) (r : Reads) (k : ℕ) → Shaped st → ShapedSetup new → (change_of st new lead).number ≡ 0 → k < lead
      → ((m : ℕ) → m < k → (step_of (stepped_by r (change_of st new lead).state m) (r.read (suc m)) (r.controller (suc m))).number ≡ 0)
      → (stepped_by r (change_of st new lead).state k).setup ≡ st.setup
  -- from that step on, the new one
  pub after : (st : State) (new : Setup) (lead : ℕ) (r : Reads) (k : ℕ) → Shaped st → ShapedSetup new → (change_of st new lead).number ≡ 0 → lead ≤ k
      → ((m : ℕ) → m < k → (step_of (stepped_by r (change_of st new lead).state m) (r.read (suc m)) (r.controller (suc m))).number ≡ 0)
      → (stepped_by r (change_of st new lead).state k).setup ≡ new
