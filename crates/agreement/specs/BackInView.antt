-- How a module comes back in a session: what accounts/specs/TakenBack.antt says of health vectors, of the views and health vectors that a module
-- holds and answers, across changes of limits too. (document 02, E6, E9 and E10) Proved in proofs/BackInView.antt.
-- It holds of any module i, in any session, bound or not, within the fault limit and outside it; while the limit is kept and changes are common all
-- rule-followers take a module back in the same round, since their views are equal (`agree` of Demand.antt).
use Rattle.std.specs.Prelude.{ℕ, suc, ◌+◌, ◌≤◌, ◌<◌, ◌≡◌, Bool, true, false, ◌≢◌}
use Rattle.words.specs.Bits.{bit}
use Rattle.setup.specs.Limits.{fades}
use Rattle.changes.specs.Pending.{penalty_limit_of}
use Rattle.presence.specs.Step.{found_view}
use Rattle.agreement.specs.Session.{Session, Accepted, size, state, ready, health, view_of}

module _ (S : Session) where
  -- whether module i has module j in its view after round k
  abbrev pub sees : ℕ → ℕ → ℕ → Bool
  sees i k j = bit (view_of S i k) j

  -- Whether rule 8 finds module j in the view in round k + 1 at module i: where a change takes effect in that round, after it. Where none does, this is
  -- what it sees after round k (`as_seen`).
  abbrev pub finds : ℕ → ℕ → ℕ → Bool
  finds i k j = bit (found_view (ready S i k)) j

  -- the P that holds at module i after round k
  abbrev pub penalty_limit : ℕ → ℕ → ℕ
  penalty_limit i k = penalty_limit_of (state S i k).setup.limits

  -- In each of the last Q rounds up to round k + 1, a round m + 1, module j was found out of module i's view, and had health 1; and in none of them but
  -- the last it came back. (Back by a round it may be put out again by a change in the next: then it counts anew.)
  pub record GoodRounds (i k j : ℕ) : Type 0 where
    pub some : 1 ≤ S.setup.q
    pub played : S.setup.q ≤ suc k
    pub away : (m : ℕ) → suc k ≤ m + S.setup.q → m ≤ k → finds i m j ≡ false
    pub out : (m : ℕ) → suc (suc k) ≤ m + S.setup.q → m ≤ k → sees i m j ≡ false
    pub healthy : (m : ℕ) → suc k ≤ m + S.setup.q → m ≤ k → bit (health S i (suc m)) j ≡ true

-- of every session with an accepted setup, and any two of its modules i and j
pub record BackInView : Type 0 where
  -- after Q rounds running with health 1 module j is back in module i's view
  pub returns : (S : Session) → Accepted S → (i j k : ℕ) → i < size S → j < size S → GoodRounds S i k j → sees S i (suc k) j ≡ true
  -- and only then
  pub only_then : (S : Session) → Accepted S → (i j k : ℕ) → i < size S → j < size S → finds S i k j ≡ false → sees S i (suc k) j ≡ true
      → GoodRounds S i k j
  -- who was out before a round is found out in it: nobody comes back by a change
  pub not-by-change : (S : Session) → Accepted S → (i j k : ℕ) → i < size S → j < size S → sees S i k j ≡ false → finds S i k j ≡ false
  -- and where no change takes effect in a round, it finds what was seen after the round before
  pub as_seen : (S : Session) → Accepted S → (i j k : ℕ) → i < size S → j < size S → (ready S i k).pending.left ≢ 1 → finds S i k j ≡ sees S i k j
  -- where its next round is bad it leaves at once, if account is kept by counts and P is not raised in that round
  pub leaves-at-once : (S : Session) → Accepted S → fades S.setup.limits ≡ false → (i j k : ℕ) → i < size S → j < size S
      → finds S i k j ≡ false → sees S i (suc k) j ≡ true → penalty_limit S i (suc (suc k)) ≤ penalty_limit S i (suc k)
      → bit (health S i (suc (suc k))) j ≡ false → sees S i (suc (suc k)) j ≡ false
  -- with Q = 0 nobody comes back
  pub never : (S : Session) → Accepted S → (i j k m : ℕ) → i < size S → j < size S → S.setup.q ≡ 0 → sees S i k j ≡ false → k ≤ m
      → sees S i m j ≡ false
