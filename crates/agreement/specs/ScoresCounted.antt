-- What the scores of a session are: at all rule-followers the same doubles, to the bit, and with factor 1.0 or 0.0 the number of charges. What
-- accounts/specs/Charges.antt says of health vectors, of the views and health vectors that a module holds and answers. (document 02, E9)
-- Proved in proofs/ScoresCounted.antt. The counts hold of any module i, in any session, bound or not, within the fault limit and outside it. A setup
-- that fades takes no change (number 23), so whatever is offered, the limits are those of the setup.
use Rattle.std.specs.Prelude.{ℕ, zero, suc, ◌+◌, ◌≤◌, ◌<◌, ◌≡◌, cond, List, Float}
use Rattle.std.specs.Float.{binary64}
use Rattle.std.specs.Float.Ieee.{to_bits}
use Rattle.words.specs.Bits.{bit}
use Rattle.doubles.specs.Double.{double}
use Rattle.doubles.specs.Array.{entry}
use Rattle.setup.specs.declared.Limits.TheVariants.{Fading}
use Rattle.presence.specs.declared.State.{State}
use Rattle.agreement.specs.Session.{Offer, Session, Accepted, RuleFollower, Common, Bound, size, health}
use Rattle.agreement.specs.Life.{Life}
use Rattle.agreement.specs.Demand.{KeptTo}
use Rattle.agreement.specs.BackInView.{sees}

-- the score of module j in a state
abbrev pub score_held : State → ℕ → Float
score_held st j = entry st.counters.score j

-- How many charges module i has counted against module j after k rounds, since its opening or since it took j back: one for each round in which it
-- had j in its view and gave it health 0. A round with health 1 leaves `kept` of those before.
unfoldable pub charges_seen : (ℕ → ℕ) → Session → ℕ → ℕ → ℕ → ℕ
charges_seen kept S i zero j = 0
charges_seen kept S i (suc k) j =
    let before = charges_seen kept S i k j in
    cond (sees S i k j) (cond (bit (health S i (suc k)) j) (kept before) (before + 1)) (cond (sees S i (suc k) j) 0 before)

-- of every session with an accepted setup, after k rounds
pub record ScoresCounted : Type 0 where
  -- with factor 1.0 a score is exactly the number of charges taken in the view since opening or the last return
  pub exact : (S : Session) → Accepted S → (limit : Float) → S.setup.limits ≡ Fading (double 1) limit → (i j k : ℕ) → i < size S → j < size S
      → (os : List Offer) (st : State) (h : ℕ) → Life S i k os st h → score_held st j ≡ double (charges_seen (λ before. before) S i k j)
  -- with factor 0.0 the number of charges since the last good round
  pub recent : (S : Session) → Accepted S → (limit : Float) → S.setup.limits ≡ Fading (double 0) limit → (i j k : ℕ) → i < size S → j < size S
      → (os : List Offer) (st : State) (h : ℕ) → Life S i k os st h → score_held st j ≡ double (charges_seen (λ before. 0) S i k j)
  -- and while the limit is kept all rule-followers hold the same bits
  pub bits : (S : Session) → Accepted S → (last : ℕ) → Bound S last → Common S last → (k : ℕ) → 0 < k → k ≤ last → KeptTo S k
      → (i i' j h h' : ℕ) (os os' : List Offer) (st st' : State) → RuleFollower S i → RuleFollower S i' → Life S i k os st h → Life S i' k os' st' h'
      → to_bits binary64 (score_held st j) ≡ to_bits binary64 (score_held st' j)
