-- Which states are accepted, and the number and index by which the others are refused: 2, 4 to 8 and 22, as their image would be; and 5 or 8 with
-- index 0 for what no image shows. (document 01, "Answers and their order", number 8)
use Rattle.std.specs.Prelude.{ℕ, ◌≡◌, Bool, cond, ◌&&◌, List, leb, ltb}
use Rattle.words.specs.Verdict.{is_accepted, single, and_then, outcome}
use Rattle.words.specs.Runs.{run_word}
use Rattle.words.specs.Verdict.{Verdict}
use Rattle.setup.specs.Limits.{most_modules, fades}
use Rattle.setup.specs.Check.{setup_verdict}
use Rattle.changes.specs.Pending.{pending_roomy}
use Rattle.views.specs.Section.{views_roomy}
use Rattle.image.specs.Words.{vector_unit}
use Rattle.image.specs.Rows.{rows_roomy}
use Rattle.image.specs.Counters.{counters_roomy}
use Rattle.image.specs.Check.{check_tail}
use Rattle.presence.specs.Image.{image_runs, image_of, room_for}
use Rattle.presence.specs.declared.State.{State}

-- every field has room in its word, and the previous read, the counters, the pending change and the views hold nothing from N on: no word
-- of an image shows it
unfoldable pub roomy : State → Bool
roomy st =
    ((leb st.own most_modules && ltb st.counters.view vector_unit) && (ltb st.latest vector_unit && ltb st.earlier vector_unit))
    && (rows_roomy st.setup.n st.previous
    && (counters_roomy (fades st.setup.limits) st.setup.n st.counters
    && (pending_roomy st.setup.n st.pending && views_roomy st.setup.partitionable st.setup.n st.views)))

-- the verdict on a state: that on its setup, 8 with index 0 where its words would not show it, then that on its words
unfoldable pub state_verdict : State → Verdict
state_verdict st =
    and_then (setup_verdict st.setup) (and_then (outcome (single (roomy st) 8 0)) (check_tail (fades st.setup.limits) (run_word (image_runs st)) st.setup.n))

-- a state within the limits: its verdict is number 0
abbrev pub Valid : State → Type 0
Valid st = (state_verdict st).number ≡ 0

-- ---- saving

-- a state outside the limits is refused first, then 9 for an output of another length
unfoldable pub save_verdict : State → List ℕ → Verdict
save_verdict st out = and_then (state_verdict st) (outcome (single (room_for st out) 9 0))

-- the output at exit: a refusal leaves it as it was
unfoldable pub saved_out : State → List ℕ → List ℕ
saved_out st out = cond (is_accepted (save_verdict st out)) (image_of st) out
