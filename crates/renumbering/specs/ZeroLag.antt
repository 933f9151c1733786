-- That u has to be 0: where it is 1, read places and send marks go by the order of the modules, and the claims do not hold. Two computed cases, each
-- of two modules that change places. (document 02, E8) Proved in proofs/ZeroLag.antt.
use Rattle.std.specs.Prelude.{ℕ, ◌-◌, ◌<◌, ◌≡◌, false, not, ◌&&◌, List, [], ◌∷◌, ◌++◌, eqb, get_or, replicate}
use Rattle.std.proofs.Common.{arith}
use Rattle.setup.specs.declared.Limits.TheVariants.{Counts}
use Rattle.rules.specs.Hearing.{bus_word}
use Rattle.script.specs.Check.{check_script}
use Rattle.agreement.specs.Session.{Session, Accepted, size, u, answer_at, state}
use Rattle.agreement.specs.Existence.{NoChanges}
use Rattle.backplane.specs.Output.{output_of}
use Rattle.backplane.specs.Sheet.{script_of, text_of}
use Rattle.renumbering.specs.Renumbering.{Renumbering}
use Rattle.renumbering.specs.States.{state_for}
use Rattle.renumbering.specs.Sessions.{session_for, Renumbered}
use Rattle.renumbering.specs.Scripts.{script_for}
use Rattle.renumbering.specs.SameRun.{script_size}

-- modules 1 and 2 change places
abbrev pub swapped : Renumbering 2
swapped = record {
  to = λ j. 1 - j;
  from = λ j. 1 - j;
  to_below = λ j h. omega arith;
  from-below = λ j h. omega arith;
  from-to = λ j h. omega arith;
  to-from = λ j h. omega arith;
}

-- ---- a read holds words of two rounds, and which of them goes by the number of the sender

-- the read place of both is 1, and nobody hears module 1 in round 1
abbrev pub lost_run : Session
lost_run = record {
  setup = record { n = 2; q = 0; partitionable = false; limits = Counts 1 3; marks = 0; places = (1 ∷ 1 ∷ []) ++ replicate 14 0; criticality = (1 ∷ 1 ∷ []) ++ replicate 14 0 };
  cast = 0;
  controller = λ k i j. not (eqb k 1 && eqb j 0);
  word = λ k i j. bus_word 3;
  view = λ k i j. 0;
  offers = λ k i. [];
}

-- ---- module 1 must not have a send mark

-- a script in which every read place is 0 and module 2 has a send mark
abbrev pub marked_words : List ℕ
marked_words = 0x1000_0002 ∷ 0x2000_0001 ∷ 0x3000_0003 ∷ 0x4080_0001 ∷ 0x4140_0001 ∷ 0x6000_0000 ∷ 0x9000_0001 ∷ []

-- ---- what is claimed

-- of states, for any u: those of the renumbered session are renumbered, if its setup is accepted
abbrev pub StatesAnyLag : Type 0
StatesAnyLag =
    (S : Session) → Accepted S → NoChanges S → (π : Renumbering (size S)) (S' : Session) → Renumbered S π S' → Accepted S'
    → (i k : ℕ) → i < size S → state S' (π.to i) k ≡ state_for (size S) π (state S i k)

-- of scripts, for any u: the renumbered script is accepted
abbrev pub ScriptsAnyLag : Type 0
ScriptsAnyLag =
    (s : List ℕ) → (check_script s).number ≡ 0 → (π : Renumbering (script_size s)) → (check_script (script_for (script_size s) π s)).number ≡ 0

-- neither holds
pub record ZeroLagNeeded : Type 0 where
  -- the setups of both sessions are accepted, and u is 1
  pub accepted : Accepted lost_run × Accepted (session_for lost_run swapped)
  pub lag : u lost_run ≡ 1
  -- A read of round 1 has the first word from round 1 and the second from the round before. So module 1 does not hear itself, for controller loss.
  -- Renumbered it is module 2, has its own word from the round before, and hears both.
  pub read : ((state lost_run 0 1).previous.heard ≡ 2) × (get_or (answer_at lost_run 0 1 (state lost_run 0 0)).causes 0 0 ≡ 1)
  pub read-renumbered : ((state (session_for lost_run swapped) 1 1).previous.heard ≡ 3)
      × (get_or (answer_at (session_for lost_run swapped) 1 1 (state (session_for lost_run swapped) 1 0)).causes 1 0 ≡ 0)
  pub states : StatesAnyLag → ⊥
  -- the script is played, and the renumbered one refused
  pub played : output_of (script_of marked_words) ≡ text_of ("1 1 11 11 in" ∷ "1 2 11 11 in" ∷ [])
  pub refused : output_of (script_for 2 swapped (script_of marked_words)) ≡ text_of ("refused 6 at 3" ∷ [])
  pub scripts : ScriptsAnyLag → ⊥
