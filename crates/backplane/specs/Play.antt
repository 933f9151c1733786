-- A whole backplane, round by round. (document 01, "What runs" and "Bench sheet"; view words by document 02, E11)
use Rattle.std.specs.Prelude.{ℕ, ◌+◌, ◌%◌, ◌≤◌, ◌<◌, ◌≡◌, true, cond, ◌&&◌, List, get_or, length, replicate}
use Rattle.words.specs.Word.{kind_unit}
use Rattle.words.specs.Bits.{bit, full}
use Rattle.words.specs.Array.{array}
use Rattle.words.specs.Table.{updated}
use Rattle.setup.specs.declared.Setup.{Setup}
use Rattle.rules.specs.Lag.{skewed}
use Rattle.rules.specs.Hearing.{bus_word}
use Rattle.views.specs.ViewWord.{view_word}
use Rattle.presence.specs.Valid.{Valid}
use Rattle.presence.specs.Opening.{blank, open_of}
use Rattle.presence.specs.Step.{step_of}
use Rattle.presence.specs.declared.State.{State}
use Rattle.presence.specs.Step.{Stepped}
use Rattle.script.specs.declared.Events.{Events}
use Rattle.agreement.specs.Fault.{follows_in, first_follower, kept_over}
use Rattle.bus.specs.Bus.{faultless, arrived, words_read, bits_read}
use Rattle.bus.specs.Senders.{hearing_of, senders_in}
use Rattle.bus.specs.declared.Bus.{Bus}
use Rattle.bus.specs.declared.Hearing.{Hearing}
use Rattle.backplane.specs.declared.Backplane.{Backplane}

-- the state of module i + 1
abbrev pub state_at : List State → ℕ → State
state_at states i = get_or states i blank

-- a backplane whose states are within the limits, so that no step has to check its state again
pub record Sound (b : Backplane) : Type 0 where
  pub few : b.setup.n ≤ 16
  pub entries : length b.states ≡ 16
  pub valid : (i : ℕ) → i < b.setup.n → Valid (state_at b.states i)

-- every module opened with its own number; entries from N on hold the state of module 1 and are not used
unfoldable pub opened_states : Setup → List State
opened_states s = updated s.n (λ i. (open_of s (i + 1)).state) (replicate 16 (open_of s 1).state)

-- before round 1: the opened modules, all-ones health vectors, and faultless rounds before
unfoldable pub opened : Setup → ℕ → Backplane
opened s cast =
    let n = s.n in
    let hearing = hearing_of n cast (faultless n) in
    record {
      setup = s;
      cast = cast;
      round = 0;
      states = opened_states s;
      health = array n (λ i. full n);
      bus = faultless n;
      hearing = hearing;
      before = hearing;
      kept = true;
    }

-- Rule 7: all words of a round hold the syndromes of the round before, those of marked modules too. (A syndrome has no bit at 28 or above; the
-- remainder keeps the sum a word whatever a state holds.)
unfoldable pub sent_words : ℕ → List State → List ℕ
sent_words n states = array n (λ j. bus_word ((state_at states j).latest % kind_unit))

-- "Each module also sends its local view as a second word, .. delayed like syndromes": the view words of a round hold the local views of the round before,
-- those of marked modules too. Where the setup is not partitionable nobody reads them. (A view has no bit at 28 or above either.)
unfoldable pub sent_views : ℕ → List State → List ℕ
sent_views n states = array n (λ j. view_word ((state_at states j).counters.view % kind_unit))

-- the step of module i + 1 from its state, on its read by rule 3 of this round's bus and the one before; view words are read where the setup is
-- partitionable
abbrev pub step_in : State → Setup → Bus → Bus → ℕ → Stepped
step_in state s this before i =
    let place = get_or s.places i 0 in
    step_of state (words_read s.partitionable s.n place i this.words before.words this.views before.views)
    (bits_read s.n place (get_or this.bits i 0) (get_or before.bits i 0))

unfoldable pub step_at : Setup → List State → Bus → Bus → ℕ → Stepped
step_at s states this before i = step_in (state_at states i) s this before i

-- the states that the steps of all modules hand back
unfoldable pub stepped_states : Setup → List State → Bus → Bus → List State
stepped_states s states this before = updated s.n (λ i. (step_at s states this before i).state) states

-- the health vectors that they answer
unfoldable pub answered_health : Setup → List State → Bus → Bus → List ℕ
answered_health s states this before = array s.n (λ i. (step_at s states this before i).health)

-- how the round u + 1 before the next one was heard
unfoldable pub earlier : Backplane → Hearing
earlier b = cond (skewed b.setup.n b.setup.places) b.before b.hearing

-- the rule-followers' view in these states, which is the local view of the lowest of them: "the fault limit go by the syndromes alone"
unfoldable pub followers_view : ℕ → ℕ → List State → ℕ
followers_view n cast states = (state_at states (first_follower n (follows_in cast))).counters.view

-- the view by which the rows of the next round are counted: that at the end of the round itself where u is 1, in the states after it, else that at
-- the end of the round before
unfoldable pub counting_view : Backplane → List State → ℕ
counting_view b after =
    cond (skewed b.setup.n b.setup.places) (followers_view b.setup.n b.cast after) (followers_view b.setup.n b.cast b.states)

-- The next round with these events: rule-breakers step like the rest, only what they are told to send differs, words and view words.
unfoldable pub played : Backplane → Events → Backplane
played b e =
    let n = b.setup.n in
    let this = arrived n (sent_words n b.states) (sent_views n b.states) e in
    let hearing = hearing_of n b.cast this in
    let states = stepped_states b.setup b.states this b.bus in
    record {
      setup = b.setup;
      cast = b.cast;
      round = b.round + 1;
      states = states;
      health = answered_health b.setup b.states this b.bus;
      bus = this;
      hearing = hearing;
      before = b.hearing;
      kept = b.kept && kept_over n (follows_in b.cast) (bit (counting_view b states)) (senders_in hearing) (senders_in (earlier b));
    }
