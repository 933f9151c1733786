-- Setups are written in one form and read back equal. Proved in proofs/SetupRoundTrip.antt. (demand 2)
use Rattle.std.specs.Prelude.{◌≡◌, ℕ, ◌<◌, List, length, slice_index}
use Rattle.words.specs.Verdict.{accepted}
use Rattle.setup.specs.Setup.{setup_of, setup_bytes}
use Rattle.setup.specs.Check.{check_setup, setup_verdict, read_setup}
use Rattle.setup.specs.declared.Setup.{Setup}

-- the arrays of a setup have 16 entries, as those of the struct have
pub record ShapedSetup (s : Setup) : Type 0 where
  pub places : length s.places ≡ 16
  pub criticality : length s.criticality ≡ 16

-- of every setup, and of all bytes
pub record SetupRoundTrip : Type 0 where
  -- an accepted setup is read back from the bytes that it is written as
  pub written_read : (s : Setup) → ShapedSetup s → (setup_verdict s).number ≡ 0 → read_setup (setup_bytes s) ≡ record { number = 0; index = 0; setup = s }
  -- accepted bytes hold an accepted setup, and are the bytes that it is written as
  pub read-accepted : (s : List ℕ) → (check_setup s).number ≡ 0 → (setup_verdict (setup_of s) ≡ accepted) × ShapedSetup (setup_of s)
  pub read-written : (s : List ℕ) → ((i : ℕ) → slice_index s i < 256) → (check_setup s).number ≡ 0 → setup_bytes (setup_of s) ≡ s
