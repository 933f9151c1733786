-- The image of a state: the words that it is written as, and the state that words hold. (document 01, "What runs", kinds 10 to 14;
-- document 02, E10 and E11)
use Rattle.std.specs.Prelude.{Bool, cond, List, ◌++◌, ℕ, ◌-◌, length, eqb}
use Rattle.words.specs.Word.{word_at}
use Rattle.words.specs.Verdict.{is_accepted}
use Rattle.words.specs.Runs.{Run, runs_of}
use Rattle.setup.specs.Layout.{head_at}
use Rattle.setup.specs.Limits.{fades}
use Rattle.setup.specs.Setup.{size_in, partitionable_in, fades_in, front_in, front_of, setup_of, setup_runs}
use Rattle.changes.specs.Words.{change_runs, pending_in}
use Rattle.views.specs.Section.{views_in, view_runs}
use Rattle.image.specs.Layout.{own_at, latest_at, earlier_at, left_at, views_at, image_length}
use Rattle.image.specs.Words.{own_in, syndrome_in}
use Rattle.image.specs.Rows.{reading_in}
use Rattle.image.specs.Counters.{counters_in}
use Rattle.image.specs.Sections.{section_runs}
use Rattle.image.specs.Check.{check_image}
use Rattle.presence.specs.Opening.{Opened, blank}
use Rattle.presence.specs.declared.State.{State}

-- ---- written

-- the words after the setup's, section by section, then the pending change, then the views
abbrev pub state_runs : State → List Run
state_runs st =
    section_runs (fades st.setup.limits) st.setup.n st.own st.counters st.previous st.latest st.earlier
    ++ (change_runs st.setup st.pending ++ view_runs st.setup.partitionable st.setup.n st.counters.view st.views)

-- all words: those of its setup, then the others
abbrev pub image_runs : State → List Run
image_runs st = setup_runs st.setup ++ state_runs st

-- the image of a state
unfoldable pub image_of : State → List ℕ
image_of st = runs_of (image_runs st)

-- ---- read

-- the state that the words of s hold, N by the head and the form by the second word; whether they are right is checked apart (`check_image`)
unfoldable pub state_of : List ℕ → State
state_of s =
    let n = size_in (word_at s head_at) in
    let front = front_in (word_at s) in
    record {
      setup = setup_of s;
      own = own_in (word_at s (own_at front n));
      counters = counters_in (fades_in (word_at s)) s n;
      previous = reading_in s front n;
      latest = syndrome_in (word_at s (latest_at front n));
      earlier = syndrome_in (word_at s (earlier_at front n));
      pending = pending_in s n (left_at front n);
      views = views_in (partitionable_in (word_at s head_at)) s n (views_at front n (word_at s (left_at front n)));
    }

-- ---- reading as a call, and the room that saving needs

-- reading: 1 to 8 and 22; what is held where an image is refused is blank
unfoldable pub load_of : List ℕ → Opened
load_of image =
    let v = check_image image in
    record { number = v.number; index = v.index; state = cond (is_accepted v) (state_of image) blank }

-- how long the image of a state is, with so many rounds left
abbrev pub state_length : State → ℕ → ℕ
state_length st left = image_length (front_of st.setup) st.setup.n left st.setup.partitionable

-- the output has the length of the state's image
unfoldable pub room_for : State → List ℕ → Bool
room_for st out = eqb (length out) (state_length st st.pending.left)

-- the output has the length of the image after a step, with one round less to go: shorter where the change takes effect in that step
unfoldable pub room_after : State → List ℕ → Bool
room_after st out = eqb (length out) (state_length st (st.pending.left - 1))
