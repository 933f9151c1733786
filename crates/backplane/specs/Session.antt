-- The session that a run script plays is one of demand 3's sessions, and what the bench prints of a round is what the session has.
-- (document 01, "A session" and "Bench sheet"; view words by document 02, E11) A script has no words for changes of limits (document 02, E10), so none
-- is offered.
-- Proved in proofs/Session.antt.
use Rattle.std.specs.Prelude.{ℕ, suc, ◌-◌, ◌*◌, ◌≤◌, ◌<◌, ◌≡◌, true, false, cond, not, ◌≢◌, List, eqb, get_or}
use Rattle.words.specs.Bits.{bit}
use Rattle.words.specs.Count.{all}
use Rattle.setup.specs.Setup.{setup_of}
use Rattle.script.specs.Check.{check_script}
use Rattle.script.specs.Told.{cast_of}
use Rattle.script.specs.Rounds.{rounds_of}
use Rattle.presence.specs.Shown.{shown_view}
use Rattle.script.specs.Effect.{fate_in, told_in, told_view_in}
use Rattle.agreement.specs.Fault.{heard}
use Rattle.agreement.specs.Session.{Session, Accepted, Partitionable, size, u, follows, RuleFollower, bit_in, word_in, view_word_in, round, state, health, sent, Bound, view_word_sent, BoundViews, unheard, half_heard, view_of, kept}
use Rattle.agreement.specs.Existence.{NoChanges}
use Rattle.adoption.specs.Adopts.{is_out, OneFaced}
use Rattle.bus.specs.Bus.{bit_to, word_to, view_to}
use Rattle.backplane.specs.Play.{state_at}
use Rattle.backplane.specs.Run.{run_at}
use Rattle.bus.specs.declared.Bus.{Bus}
use Rattle.bus.specs.declared.Hearing.{Hearing}
use Rattle.backplane.specs.declared.Backplane.{Backplane}

-- S is the session that the script s plays; script/specs/Effect.antt says of every round which words are lost and told.
pub record PlayedBy (s : List ℕ) (S : Session) : Type 0 where
  pub setup : S.setup ≡ setup_of s
  pub accepted : Accepted S
  pub cast : S.cast ≡ cast_of s
  -- a lost word arrives with its controller bit clear, every other one with its bit set
  pub controller : (k i j : ℕ) → S.controller k i j ≡ not (eqb (fate_in s k i j) 7)
  -- a told word arrives in place of the one sent
  pub told : (k i j : ℕ) → i < 16 → j < 16 → fate_in s k i j ≡ 8 → S.word k i j ≡ told_in s k i j
  -- every other word is the one that its sender handed out for the round, a rule-breaker's too
  pub as-sent : (k i j : ℕ) → j < size S → fate_in s (suc k) i j ≢ 8 → S.word (suc k) i j ≡ sent S j (suc k)
  pub bound : (last : ℕ) → Bound S last
  -- the same of view words, where the setup is partitionable
  pub told-view : Partitionable S → (k i j : ℕ) → i < 16 → j < 16 → fate_in s k i j ≡ 8 → S.view k i j ≡ told_view_in s k i j
  pub as-sent-view : Partitionable S → (k i j : ℕ) → j < size S → fate_in s (suc k) i j ≢ 8 → S.view (suc k) i j ≡ view_word_sent S j (suc k)
  pub bound-views : (last : ℕ) → BoundViews S last
  -- nobody is offered a change
  pub no-changes : NoChanges S

-- every accepted script plays a session
abbrev pub HasSession : Type 0
HasSession = (s : List ℕ) → (check_script s).number ≡ 0 → (S : Session) × PlayedBy s S

-- the bus of round k: by receiver and sender the controller bit, the word, and where the setup is partitionable the view word
pub record Carries (S : Session) (k : ℕ) (b : Bus) : Type 0 where
  pub bits : (i j : ℕ) → i < size S → j < size S → bit_to b i j ≡ bit_in S k i j
  pub words : (i j : ℕ) → i < size S → j < size S → word_to b i j ≡ word_in S k i j
  pub views : Partitionable S → (i j : ℕ) → i < size S → j < size S → view_to b i j ≡ view_word_in S k i j

-- how the rule-followers heard round k: which senders are half heard, and which are heard by one of them at least
pub record Hears (S : Session) (k : ℕ) (h : Hearing) : Type 0 where
  pub half-heard : (j : ℕ) → j < size S → bit h.half j ≡ half_heard S k j
  pub is-heard : (j : ℕ) → j < size S → bit h.heard j ≡ heard (size S) (follows S) (round S k) j

-- After round k the bench holds what the session has: each module's state and health vector, the words and view words on the bus and who heard what, and
-- whether the limit was kept in every round so far.
pub record Holds (S : Session) (k : ℕ) (b : Backplane) : Type 0 where
  pub setup : b.setup ≡ S.setup
  pub round : b.round ≡ k
  pub states : (i : ℕ) → i < size S → state_at b.states i ≡ state S i k
  pub health : (i : ℕ) → i < size S → get_or b.health i 0 ≡ health S i k
  -- the view that its line shows: "the bench .. take the adopted one" where the setup is partitionable, else the local view
  pub shown : (i : ℕ) → i < size S → shown_view (state_at b.states i) ≡ cond S.setup.partitionable (state S i k).views.adopted (view_of S i k)
  pub bus : Carries S k b.bus
  pub hearing : Hears S k b.hearing
  pub kept : b.kept ≡ all k (λ ρ. kept S (suc ρ))

-- of every round of an accepted script, and before round 1
abbrev pub PlaysSession : Type 0
PlaysSession = (s : List ℕ) → (check_script s).number ≡ 0 → (S : Session) → PlayedBy s S → (k : ℕ) → k ≤ rounds_of s → Holds S k (run_at s k).backplane

-- Of a round that is printed `in`: all rule-followers have the same health vector and local view, and demand 3's other two claims hold of what is printed.
-- The round judged is r = k - 2u - 1. Of adopted views, which are printed where the setup is partitionable, `in` says nothing.
pub record PrintedIn (S : Session) (k : ℕ) (b : Backplane) : Type 0 where
  -- health vector and local view are equal at all rule-followers
  pub same : (i i' : ℕ) → RuleFollower S i → RuleFollower S i'
      → (get_or b.health i 0 ≡ get_or b.health i' 0)
      × ((state_at b.states i).counters.view ≡ (state_at b.states i').counters.view)
  -- and without head bit 5 so are the views that are printed
  pub same-printed : S.setup.partitionable ≡ false → (i i' : ℕ) → RuleFollower S i → RuleFollower S i'
      → shown_view (state_at b.states i) ≡ shown_view (state_at b.states i')
  -- whoever is unheard in r has health 0 at every rule-follower
  pub charged : (j : ℕ) → j < size S → unheard S (k - 2 * u S - 1) j ≡ true
      → (i : ℕ) → RuleFollower S i → bit (get_or b.health i 0) j ≡ false
  -- a rule-follower heard in r by all rule-followers has health 1 at each, unless a sender other than itself was half heard in r - u - 1
  pub cleared : (j : ℕ) → RuleFollower S j → ((l : ℕ) → RuleFollower S l → (round S (k - 2 * u S - 1)).hears l j ≡ true)
      → ((l : ℕ) → l < size S → l ≢ j → half_heard S (k - 2 * u S - 1 - u S - 1) l ≡ false)
      → (i : ℕ) → RuleFollower S i → bit (get_or b.health i 0) j ≡ true

-- of every round that is printed `in`
abbrev pub InAgrees : Type 0
InAgrees = (s : List ℕ) → (check_script s).number ≡ 0 → (S : Session) → PlayedBy s S
    → (k : ℕ) → 0 < k → k ≤ rounds_of s → (run_at s k).backplane.kept ≡ true → PrintedIn S k (run_at s k).backplane

-- Of a partitionable setup, in every round, `in` or `out`: two rule-followers that are not out show the same view, if no sender gave two rule-followers
-- different view words in the round that they adopted it from. (document 02, E11; adoption/specs/AdoptedViews.antt says more of them)
abbrev pub ShownAlike : Type 0
ShownAlike = (s : List ℕ) → (check_script s).number ≡ 0 → (S : Session) → PlayedBy s S → Partitionable S
    → (k : ℕ) → suc k ≤ rounds_of s → OneFaced S (suc k - u S)
    → (i i' : ℕ) → RuleFollower S i → RuleFollower S i' → is_out S i (suc k) ≡ false → is_out S i' (suc k) ≡ false
    → shown_view (state_at (run_at s (suc k)).backplane.states i) ≡ shown_view (state_at (run_at s (suc k)).backplane.states i')
