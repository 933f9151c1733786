-- A run: a script played round by round. (document 01, "What runs" and "Bench sheet")
use Rattle.std.specs.Prelude.{ℕ, zero, suc, Bool, true, cond, not, ◌&&◌, List, ltb, get_or, Result, Ok, Err}
use Rattle.words.specs.Word.{word_at}
use Rattle.words.specs.Verdict.{is_accepted}
use Rattle.words.specs.Refusal.{code}
use Rattle.words.specs.declared.Refusal.{Refusal}
use Rattle.setup.specs.Setup.{blank_setup}
use Rattle.setup.specs.Check.{setup_part, read_setup}
use Rattle.presence.specs.Shown.{shown_view}
use Rattle.script.specs.Words.{cast_at, cast_in, most_rounds}
use Rattle.script.specs.Check.{check_script}
use Rattle.script.specs.Events.{none}
use Rattle.script.specs.Cursor.{start, advanced}
use Rattle.script.specs.declared.Cursor.{Cursor}
use Rattle.text.specs.Lines.{lines_of}
use Rattle.backplane.specs.Play.{state_at, opened, played}
use Rattle.backplane.specs.declared.Backplane.{Backplane}
use Rattle.backplane.specs.declared.Run.{Run}

-- before round 1 of an accepted script
unfoldable pub begun : List ℕ → Run
begun s = record { cursor = start s; backplane = opened (read_setup (setup_part s)).setup (cast_in (word_at s (cast_at s))) }

-- what is held where a script is refused: nothing to play
unfoldable pub idle : Run
idle = record { cursor = record { at = 0; left = 0; over = true; events = none }; backplane = opened blank_setup 0 }

-- what starting a script answers
pub record Started : Type 0 where
  pub number : ℕ
  pub index : ℕ
  pub run : Run

-- the same as code has it; with a refusal there is nothing to play
abbrev pub start_told : Result Run Refusal → Started
start_told (Ok run) = record { number = 0; index = 0; run = run }
start_told (Err e) = record { number = code e.number; index = e.index; run = idle }

-- what starting a script answers; it is checked whole before anything of it is played
unfoldable pub start_of : List ℕ → Started
start_of s =
    let v = check_script s in
    record { number = v.number; index = v.index; run = cond (is_accepted v) (begun s) idle }

-- there is a next round, at the place c. (The bound does not stop an accepted script, which has at most 100,000 rounds.)
unfoldable pub goes_on : Cursor → Backplane → Bool
goes_on c b = not c.over && ltb b.round most_rounds

-- the run after its next round; a script that is over leaves the backplane as it is
unfoldable pub next_of : List ℕ → Run → Run
next_of s r =
    let c = advanced s r.cursor in
    record { cursor = c; backplane = cond (goes_on c r.backplane) (played r.backplane c.events) r.backplane }

-- a run m rounds later
unfoldable pub later : List ℕ → Run → ℕ → Run
later s r zero = r
later s r (suc m) = next_of s (later s r m)

-- the run of an accepted script after round k
abbrev pub run_at : List ℕ → ℕ → Run
run_at s k = later s (begun s) k

-- ---- what is printed of a round

-- one line for each module: round, module, health, view, `in` or `out`; the view is the adopted one where the setup is partitionable (document 02, E11)
unfoldable pub printed : Backplane → List ℕ
printed b = lines_of b.setup.n b.round b.kept (λ i. get_or b.health i 0) (λ i. shown_view (state_at b.states i)) b.setup.n
