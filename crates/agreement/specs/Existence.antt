-- Demand 3 speaks of something: for every pattern of hearing, every lie of the cast and all changes offered there is a bound session; and where all
-- rule-followers are offered the same changes, they accept the same, so its premise on changes can be met. (document 02, E10; view words by E11)
-- Proved in proofs/Existence.antt and proofs/Alike.antt.
use Rattle.std.specs.Prelude.{ℕ, suc, ◌<◌, ◌≡◌, Bool, true, false, List, []}
use Rattle.words.specs.Bits.{bit}
use Rattle.setup.specs.Check.{setup_verdict}
use Rattle.setup.specs.declared.Setup.{Setup}
use Rattle.agreement.specs.Session.{Offer, Session, Accepted, size, RuleFollower, sent, view_word_sent, Common, Bound, BoundViews}
use Rattle.agreement.specs.Demand.{KeptTo}

-- What is chosen of a session: an accepted setup, a cast, by round, receiver and sender the controller bits, where the cast lies, and the word and the
-- view word that it is told to send there, and by round and module the changes offered.
pub record Choice : Type 0 where
  pub setup : Setup
  pub accepted : (setup_verdict setup).number ≡ 0
  pub cast : ℕ
  pub controller : ℕ → ℕ → ℕ → Bool
  pub lies : ℕ → ℕ → ℕ → Bool
  pub told : ℕ → ℕ → ℕ → ℕ
  pub told-view : ℕ → ℕ → ℕ → ℕ
  pub offers : ℕ → ℕ → List Offer
  pub cast-only : (k i j : ℕ) → lies k i j ≡ true → bit cast j ≡ true

-- a session that is as chosen, and whose words and view words are bound in every round
pub record Plays (C : Choice) (S : Session) : Type 0 where
  pub setup : S.setup ≡ C.setup
  pub cast : S.cast ≡ C.cast
  pub controller : S.controller ≡ C.controller
  pub offers : S.offers ≡ C.offers
  pub told : (k i j : ℕ) → C.lies k i j ≡ true → S.word k i j ≡ C.told k i j
  pub told-view : (k i j : ℕ) → C.lies k i j ≡ true → S.view k i j ≡ C.told-view k i j
  -- but for the lies, everybody's word is the one it handed out for the round, and so is its view word
  pub as-sent : (k i j : ℕ) → j < size S → C.lies (suc k) i j ≡ false → S.word (suc k) i j ≡ sent S j (suc k)
  pub as-sent-view : (k i j : ℕ) → j < size S → C.lies (suc k) i j ≡ false → S.view (suc k) i j ≡ view_word_sent S j (suc k)
  pub bound : (last : ℕ) → Bound S last
  pub bound-views : (last : ℕ) → BoundViews S last

-- every choice has such a session
abbrev pub Existence : Type 0
Existence = (C : Choice) → (S : Session) × Plays C S

-- ---- changes in common

-- all rule-followers are offered the same changes between the same steps
abbrev pub OfferedAlike : Session → Type 0
OfferedAlike S = (k i i' : ℕ) → RuleFollower S i → RuleFollower S i' → S.offers (suc k) i ≡ S.offers (suc k) i'

-- Whether a change is accepted rests on what they agree on alone: while the limit is kept, one that is offered to all is accepted by all or by none.
abbrev pub CommonWhereAlike : Type 0
CommonWhereAlike = (S : Session) → Accepted S → (last : ℕ) → Bound S last → KeptTo S last → OfferedAlike S → Common S last

-- nobody is offered a change
abbrev pub NoChanges : Session → Type 0
NoChanges S = (k i : ℕ) → S.offers (suc k) i ≡ []
