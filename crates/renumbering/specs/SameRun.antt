-- Where u is 0, the bench plays a renumbered script as it plays the script, and prints the same lines renumbered. (document 02, E8 and E11)
-- Proved in proofs/SameRun.antt.
use Rattle.std.specs.Prelude.{ℕ, zero, suc, ◌≤◌, ◌<◌, ◌≡◌, Bool, List, [], ◌++◌, get_or}
use Rattle.words.specs.Word.{word_at}
use Rattle.setup.specs.Setup.{size_in, setup_of}
use Rattle.rules.specs.Lag.{lag}
use Rattle.presence.specs.Shown.{shown_view}
use Rattle.presence.specs.declared.State.{State}
use Rattle.script.specs.Check.{check_script}
use Rattle.script.specs.Rounds.{rounds_of}
use Rattle.text.specs.Text.{vector}
use Rattle.text.specs.Lines.{lines_of}
use Rattle.backplane.specs.Play.{state_at}
use Rattle.backplane.specs.Run.{run_at}
use Rattle.backplane.specs.Output.{output_of}
use Rattle.renumbering.specs.Renumbering.{Renumbering, vector_for}
use Rattle.renumbering.specs.States.{setup_for, state_for}
use Rattle.renumbering.specs.Scripts.{script_for}

-- ---- what the bench has of a script after round k

-- N
abbrev pub script_size : List ℕ → ℕ
script_size s = size_in (word_at s 0)

-- the state of module i + 1
abbrev pub state_in : List ℕ → ℕ → ℕ → State
state_in s k i = state_at (run_at s k).backplane.states i

-- the view that its line shows: the adopted one where the setup is partitionable, else the local view
abbrev pub shown_in : List ℕ → ℕ → ℕ → ℕ
shown_in s k i = shown_view (state_in s k i)

-- the health vector that it answered
abbrev pub health_in : List ℕ → ℕ → ℕ → ℕ
health_in s k i = get_or (run_at s k).backplane.health i 0

-- `in`: the fault limit was kept so far
abbrev pub kept_in : List ℕ → ℕ → Bool
kept_in s k = (run_at s k).backplane.kept

-- ---- the lines of a script of n modules, renumbered

module _ (n : ℕ) (π : Renumbering n) (s : List ℕ) where
  -- of round k: each module has the line of the module that it was, with its new number, and with health vector and shown view renumbered
  unfoldable pub lines_for : ℕ → List ℕ
  lines_for k =
      lines_of n k (kept_in s k) (λ i. vector_for n π (health_in s k (π.from i))) (λ i. vector_for n π (shown_in s k (π.from i))) n

  -- of rounds 1 to k
  unfoldable pub lines_to_for : ℕ → List ℕ
  lines_to_for zero = []
  lines_to_for (suc k) = lines_to_for k ++ lines_for (suc k)

-- ---- what is promised

module _ (s : List ℕ) (π : Renumbering (script_size s)) where
  -- the renumbered script
  abbrev pub renumbered_script : List ℕ
  renumbered_script = script_for (script_size s) π s

  -- after round k; "the module" is `to i`, which was i
  pub record SameRound (k : ℕ) : Type 0 where
    -- the module holds its state renumbered: the view, penalties, rewards, return counts, the previous read, both syndromes, and what it holds of views
    pub states : (i : ℕ) → i < script_size s → state_in renumbered_script k (π.to i) ≡ state_for (script_size s) π (state_in s k i)
    -- so the view that its line shows is renumbered, and it is out or not as before
    pub shown : (i : ℕ) → i < script_size s
        → (shown_in renumbered_script k (π.to i) ≡ vector_for (script_size s) π (shown_in s k i))
        × ((state_in renumbered_script k (π.to i)).views.out ≡ (state_in s k i).views.out)
    -- it answered its health vector renumbered
    pub health : (i : ℕ) → i < script_size s → health_in renumbered_script k (π.to i) ≡ vector_for (script_size s) π (health_in s k i)
    -- `in` and `out` stay
    pub kept : kept_in renumbered_script k ≡ kept_in s k

  -- of the whole script
  pub record SameRun : Type 0 where
    -- the renumbered script is accepted, holds the renumbered setup, and plays as many rounds
    pub accepted : (check_script renumbered_script).number ≡ 0
    pub setup : setup_of renumbered_script ≡ setup_for (script_size s) π (setup_of s)
    pub rounds : rounds_of renumbered_script ≡ rounds_of s
    -- every round is the same renumbered
    pub same : (k : ℕ) → k ≤ rounds_of s → SameRound k
    -- what the bench writes are the lines of every round renumbered, and nothing else
    pub output : output_of renumbered_script ≡ lines_to_for (script_size s) π s (rounds_of s)

-- every renumbering of every accepted script whose u is 0
pub record RenumbersRuns : Type 0 where
  pub same : (s : List ℕ) → (check_script s).number ≡ 0 → lag (script_size s) (setup_of s).places ≡ 0 → (π : Renumbering (script_size s)) → SameRun s π
  -- in a vector as it is printed, the digit of module j stands in the place of the module that module j became
  pub digits : (n : ℕ) (π : Renumbering n) (v j : ℕ) → j < n → get_or (vector n (vector_for n π v)) (π.to j) 0 ≡ get_or (vector n v) j 0
  -- and where no module moves, the lines renumbered are those that the bench writes for the script
  pub unmoved : (s : List ℕ) → (check_script s).number ≡ 0 → (π : Renumbering (script_size s)) → ((j : ℕ) → j < script_size s → π.from j ≡ j)
      → lines_to_for (script_size s) π s (rounds_of s) ≡ output_of s
