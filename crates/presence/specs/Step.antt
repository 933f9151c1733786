-- One step of a module: rules 1 to 8 in their order, and the answers 9 and 10. (document 01, "One step, round k"; document 02, E7: no rule 9, and
-- E10: a change that is due takes effect at the start of rule 8; E11: the views)
use Rattle.std.specs.Prelude.{Result, Ok, Err, ℕ, ◌-◌, ◌*◌, ◌^◌, Bool, cond, List, get_or, length, replicate, eqb, ltb}
use Rattle.words.specs.Bits.{bit}
use Rattle.words.specs.Verdict.{is_accepted}
use Rattle.words.specs.Refusal.{code}
use Rattle.words.specs.declared.Refusal.{Refusal}
use Rattle.rules.specs.Lag.{skewed}
use Rattle.rules.specs.Hearing.{reading_of, causes_of}
use Rattle.rules.specs.Alignment.{aligned_of}
use Rattle.rules.specs.Syndrome.{judgement_of, outgoing_of}
use Rattle.changes.specs.Books.{turned, books_after}
use Rattle.changes.specs.declared.Books.{Books}
use Rattle.views.specs.ViewWord.{view_word, read_words, views_seen, aligned_views}
use Rattle.views.specs.Views.{no_views, views_after}
use Rattle.views.specs.declared.Views.{Views}
use Rattle.presence.specs.Valid.{state_verdict}
use Rattle.rules.specs.declared.Reading.{Reading}
use Rattle.rules.specs.declared.Judgement.{Judgement}
use Rattle.presence.specs.declared.State.{State}
use Rattle.presence.specs.declared.Round.{Round}

-- ---- what a state says of its module

-- rule 1: whether u is 1
abbrev pub skew_of : State → Bool
skew_of st = skewed st.setup.n st.setup.places

-- the module's own read place l; its entry stands at its number less one
unfoldable pub place_of : State → ℕ
place_of st = get_or st.setup.places (st.own - 1) 0

-- whether the module has the send mark
unfoldable pub mark_of : State → Bool
mark_of st = bit st.setup.marks (st.own - 1)

-- its own syndrome computed in round k - u - 1, for empty votes
unfoldable pub own_syndrome : State → ℕ
own_syndrome st = cond (skew_of st) st.earlier st.latest

-- how many bytes its read has: N words, or 2N where the setup is partitionable
abbrev pub read_length : State → ℕ
read_length st = read_words st.setup.partitionable st.setup.n * 4

-- the view words of such a read, none where the setup is not partitionable
abbrev pub seen_by : State → List ℕ → ℕ → List ℕ
seen_by st read controller = views_seen st.setup.partitionable st.setup.n read controller

-- ---- a round, from this read

-- rule 3: this read aligned with the previous one; of reads that rule 3 describes all entries are then of round k - u
unfoldable pub aligned_for : State → Reading → Reading
aligned_for st this = aligned_of st.setup.n (skew_of st) (place_of st) st.previous this

-- rules 4 to 6: the health vector, the accusations and the syndrome of this round, by the view held at the end of the round before
unfoldable pub judgement_for : State → Reading → Judgement
judgement_for st this = judgement_of st.setup.n st.counters.view (aligned_for st this) (own_syndrome st)

-- rule 7: the word handed out
unfoldable pub outgoing_for : State → Reading → ℕ
outgoing_for st this = outgoing_of (mark_of st) st.latest (judgement_for st this).syndrome

-- what rule 8 counts with and what it counts
abbrev pub books_of : State → Books
books_of st = record { setup = st.setup; counters = st.counters; pending = st.pending }

-- the view that rule 8 finds, after a change that is due has taken effect
unfoldable pub found_view : State → ℕ
found_view st = (turned (books_of st)).counters.view

-- the view words that the round votes on, from those of this read: of the same round as the rows (document 02, E11)
unfoldable pub voted_views : State → List ℕ → List ℕ
voted_views st seen = aligned_views st.setup.n (skew_of st) (place_of st) st.views.words seen

-- what is held of views after the round; without head bit 5 there are none
unfoldable pub views_for : State → List ℕ → Views
views_for st seen =
    cond st.setup.partitionable (views_after st.setup.n st.views (voted_views st seen) seen st.counters.view) no_views

-- the view word handed out, where `view` is the local view after the round: with the send mark that of the round before; 0 without head bit 5
unfoldable pub outgoing_view : State → ℕ → ℕ
outgoing_view st view = cond st.setup.partitionable (view_word (cond (mark_of st) st.counters.view view)) 0

-- rule 8 with the pending change, and what the next step needs: this read, the syndromes of this round and the one before, and the views, by the view
-- words `seen` of this read
unfoldable pub after_round : State → Reading → List ℕ → State
after_round st this seen =
    let books = books_after (books_of st) (judgement_for st this).health in
    record {
      setup = books.setup;
      own = st.own;
      counters = books.counters;
      previous = this;
      latest = (judgement_for st this).syndrome;
      earlier = st.latest;
      pending = books.pending;
      views = views_for st seen;
    }

-- ---- the answer

-- What a step answers: the number and the index, 0 and 0 where nothing is refused; the health vector and the accusations of rules 4 and 5; the word and
-- the second word, which holds the local view, those handed out for the bus; the causes of this read; and the state.
pub record Stepped : Type 0 where
  pub number : ℕ
  pub index : ℕ
  pub health : ℕ
  pub accusations : List ℕ
  pub word : ℕ
  pub second : ℕ
  pub causes : List ℕ
  pub state : State

-- a refusal leaves the state as it was; health, accusations, both words and causes are 0
unfoldable pub refused_step : State → ℕ → ℕ → Stepped
refused_step st number index =
    record { number = number; index = index; health = 0; accusations = replicate 16 0; word = 0; second = 0; causes = replicate 16 0; state = st }

-- number 0, what the rules give, the causes of the read as it came, and the state after the round, which keeps no causes
unfoldable pub accepted_step : State → Reading → List ℕ → List ℕ → Stepped
accepted_step st this seen causes = record {
  number = 0;
  index = 0;
  health = (judgement_for st this).health;
  accusations = (judgement_for st this).accusations;
  word = outgoing_for st this;
  second = outgoing_view st (after_round st this seen).counters.view;
  causes = causes;
  state = after_round st this seen;
}

-- 9: a read of other than N words, or 2N where the setup is partitionable; 10: a controller bit at N or above; both with index 0
unfoldable pub read_step : State → List ℕ → ℕ → Stepped
read_step st read controller =
    cond (eqb (length read) (read_length st))
    (cond (ltb controller (2 ^ st.setup.n))
    (accepted_step st (reading_of st.setup.n read controller) (seen_by st read controller) (causes_of st.setup.n read controller))
    (refused_step st 10 0))
    (refused_step st 9 0)

-- what a step answers; a state outside the limits is refused first
unfoldable pub step_of : State → List ℕ → ℕ → Stepped
step_of st read controller =
    let v = state_verdict st in
    cond (is_accepted v) (read_step st read controller) (refused_step st v.number v.index)

-- ---- the answer as code has it

-- an accepted step
abbrev pub round_told : Round → Stepped
round_told r =
    record { number = 0; index = 0; health = r.health; accusations = r.accusations; word = r.word; second = r.second; causes = r.causes; state = r.state }

-- a step of a state; with a refusal it gives nothing, and the state is as it was
abbrev pub stepped_told : State → Result Round Refusal → Stepped
stepped_told st (Ok r) = round_told r
stepped_told st (Err e) =
    record { number = code e.number; index = e.index; health = 0; accusations = replicate 16 0; word = 0; second = 0; causes = replicate 16 0; state = st }
