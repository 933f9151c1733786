-- Demand 3: what a session promises while the fault limit is kept. (document 01, "A session"; document 02, E4 and E10)
-- Proved in proofs/Demand.antt; docs/THEOREM.md sets each line beside the sentence of document 01 or 02 that it is.
use Rattle.std.specs.Prelude.{ℕ, suc, ◌+◌, ◌-◌, ◌*◌, ◌^◌, ◌≤◌, ◌<◌, ◌≡◌, true, false, ◌≢◌, List, [], ◌++◌}
use Rattle.words.specs.Bits.{bit}
use Rattle.presence.specs.Opening.{open_of}
use Rattle.presence.specs.Valid.{Valid}
use Rattle.presence.specs.declared.State.{State}
use Rattle.agreement.specs.Session.{Offer, made, Session, Accepted, size, u, RuleFollower, round, answer_at, state, health, Common, Bound, unheard, half_heard, kept_by, kept}
use Rattle.agreement.specs.Life.{Life}

module _ (S : Session) where
  -- the limit is kept for every round ρ from 1 to k - u, the deciding round of step k
  abbrev pub KeptTo : ℕ → Type 0
  KeptTo k = (ρ : ℕ) → 0 < ρ → ρ ≤ k - u S → kept S ρ ≡ true

  -- What a module holds and last answered is what the rules give by its opening, its k steps and the changes `done` since: those still to come are os.
  pub record ByRules (i k : ℕ) (os : List Offer) (st : State) (h : ℕ) : Type 0 where
    pub done : List Offer
    pub offered : done ++ os ≡ S.offers (suc k) i
    pub holds : st ≡ made done (state S i k)
    pub answered : h ≡ health S i k

  -- Of any module, a rule-breaker too, within the limit and outside it.
  pub record Served (i : ℕ) : Type 0 where
    -- its opening is accepted
    pub opened : (open_of S.setup (i + 1)).number ≡ 0
    -- each next step on a read of the session is accepted, whatever changes and refused calls lie between
    pub stepped : (k h : ℕ) (os : List Offer) (st : State) → Life S i k os st h → (answer_at S i (suc k) st).number ≡ 0
    -- what it holds is within the limits that then hold, before a change and after it
    pub valid : (k h : ℕ) (os : List Offer) (st : State) → Life S i k os st h → Valid st
    -- its view names no module above N
    pub view : (k h : ℕ) (os : List Offer) (st : State) → Life S i k os st h → st.counters.view < 2 ^ size S
    -- what it holds and last answered is what the rules give: refused calls change nothing
    pub by-rules : (k h : ℕ) (os : List Offer) (st : State) → Life S i k os st h → ByRules i k os st h

  -- After round k, of rule-followers that then hold the states st and last answered the health vectors h. The round judged is r = k - 2u - 1.
  pub record Agreement (k : ℕ) : Type 0 where
    -- The health vector answered, every module's penalty, reward, score and return count, the view, and the limits that hold are equal at all
    -- rule-followers, whatever each was offered since.
    pub agree : (i i' h h' : ℕ) (os os' : List Offer) (st st' : State) → RuleFollower S i → RuleFollower S i' → Life S i k os st h → Life S i' k os' st' h'
        → (h ≡ h') × (st.counters ≡ st'.counters) × (st.setup ≡ st'.setup)
    -- so is the change that is pending, right after the step: all that is offered since is still to come
    pub after-step : (i i' h h' : ℕ) (st st' : State) → RuleFollower S i → RuleFollower S i'
        → Life S i k (S.offers (suc k) i) st h → Life S i' k (S.offers (suc k) i') st' h' → st.pending ≡ st'.pending
    -- whoever is unheard in r has health 0 at every rule-follower
    pub charged : (j : ℕ) → j < size S → unheard S (k - 2 * u S - 1) j ≡ true
        → (i h : ℕ) (os : List Offer) (st : State) → RuleFollower S i → Life S i k os st h → bit h j ≡ false
    -- a rule-follower heard in r by all rule-followers has health 1 at each, unless a sender other than itself was half heard in r - u - 1
    pub cleared : (j : ℕ) → RuleFollower S j → ((l : ℕ) → RuleFollower S l → (round S (k - 2 * u S - 1)).hears l j ≡ true)
        → ((l : ℕ) → l < size S → l ≢ j → half_heard S (k - 2 * u S - 1 - u S - 1) l ≡ false)
        → (i h : ℕ) (os : List Offer) (st : State) → RuleFollower S i → Life S i k os st h → bit h j ≡ true

-- For every session with an accepted setup, partitionable or not, whatever its cast, its controller bits, its words, its view words and the changes
-- offered.
pub record Demand3 : Type 0 where
  -- all modules, in any session: it need not be bound, nor its changes common
  pub served : (S : Session) → Accepted S → (i : ℕ) → i < size S → Served S i
  -- the rule-followers of a session that is bound up to round `last` and whose changes are common up to it, after each of these rounds while the limit
  -- is kept
  pub agreement : (S : Session) → Accepted S → (last : ℕ) → Bound S last → Common S last → (k : ℕ) → 0 < k → k ≤ last → KeptTo S k → Agreement S k
  -- and what is pending when the changes before step k + 1 are made, which is what that step counts with; for k = 0 those before step 1
  pub before-step : (S : Session) → Accepted S → (last : ℕ) → Bound S last → Common S last → (k : ℕ) → k < last → KeptTo S k
      → (i i' h h' : ℕ) (st st' : State) → RuleFollower S i → RuleFollower S i' → Life S i k [] st h → Life S i' k [] st' h'
      → st.pending ≡ st'.pending
  -- "the rule-followers' view": as long as the limit was kept for the rounds before ρ, it is kept for ρ or not by whichever rule-follower's view
  pub one-view : (S : Session) → Accepted S → (last : ℕ) → Bound S last → Common S last → (ρ : ℕ) → 0 < ρ → ρ + u S - 1 ≤ last
      → ((r : ℕ) → 0 < r → r < ρ → kept S r ≡ true) → (i : ℕ) → RuleFollower S i → kept_by S i ρ ≡ kept S ρ
