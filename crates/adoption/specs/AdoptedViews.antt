-- The same of modules' lives, with changes of limits and refused calls between their steps, and of the view that page, bench and scan lock take.
-- (document 02, E11) Proved in proofs/AdoptedViews.antt.
use Rattle.std.specs.Prelude.{ℕ, suc, ◌-◌, ◌^◌, ◌≤◌, ◌<◌, ◌≡◌, true, false, List}
use Rattle.presence.specs.Shown.{shown_view}
use Rattle.presence.specs.declared.State.{State}
use Rattle.agreement.specs.Session.{Offer, Session, Accepted, Partitionable, size, u, RuleFollower, state}
use Rattle.agreement.specs.Life.{Life}
use Rattle.adoption.specs.Adopts.{is_out, adopted_view, OneFaced, NoneInCommon, TornInto}

-- Of every session with an accepted, partitionable setup, its cards opened before round 1 (`Life`), whatever is lost, sent, offered and refused.
pub record AdoptedViews : Type 0 where
  -- a change, accepted or refused, and a refused call touch no view: after k steps a module holds what its step k, or its opening, left
  pub held : (S : Session) → Accepted S → Partitionable S → (i k h : ℕ) (os : List Offer) (st : State) → i < size S → Life S i k os st h
      → st.views ≡ (state S i k).views
  -- "the register page, the bench and the scan lock take the adopted one", a view of N modules
  pub shown : (S : Session) → Accepted S → Partitionable S → (i k h : ℕ) (os : List Offer) (st : State) → i < size S → Life S i k os st h
      → (shown_view st ≡ adopted_view S i k) × (shown_view st < 2 ^ size S)
  -- two rule-followers that are not out after step k + 1 hold the same adopted view, if no sender gave two rule-followers different view words in the
  -- round that they adopted it from
  pub one-view : (S : Session) → Accepted S → Partitionable S → (k i i' h h' : ℕ) (os os' : List Offer) (st st' : State) → OneFaced S (suc k - u S)
      → RuleFollower S i → RuleFollower S i' → Life S i (suc k) os st h → Life S i' (suc k) os' st' h' → st.views.out ≡ false → st'.views.out ≡ false
      → st.views.adopted ≡ st'.views.adopted
  -- of two that heard no common sender's view word in that round, one is out after the step
  pub apart : (S : Session) → Accepted S → Partitionable S → (k i i' h h' : ℕ) (os os' : List Offer) (st st' : State) → NoneInCommon S (suc k - u S) i i'
      → RuleFollower S i → RuleFollower S i' → Life S i (suc k) os st h → Life S i' (suc k) os' st' h' → st.views.out ≡ false → st'.views.out ≡ true
  -- those that are not out after a step in whose round the cable was torn are on one part of it
  pub one-part : (S : Session) → Accepted S → Partitionable S → (part : ℕ → ℕ) (k i i' h h' : ℕ) (os os' : List Offer) (st st' : State)
      → TornInto S part (suc k - u S) → RuleFollower S i → RuleFollower S i' → Life S i (suc k) os st h → Life S i' (suc k) os' st' h'
      → st.views.out ≡ false → st'.views.out ≡ false → part i ≡ part i'
  -- two that are not out after step `last` showed the same view after each step up to it, and after their opening
  pub same-shown : (S : Session) → Accepted S → Partitionable S → (last i i' : ℕ) → ((k : ℕ) → 0 < k → k ≤ last → OneFaced S (k - u S))
      → RuleFollower S i → RuleFollower S i' → is_out S i last ≡ false → is_out S i' last ≡ false
      → (k h h' : ℕ) (os os' : List Offer) (st st' : State) → k ≤ last → Life S i k os st h → Life S i' k os' st' h' → shown_view st ≡ shown_view st'
  -- one that is out shows what it showed before the step in which it took itself out
  pub stays-shown : (S : Session) → Accepted S → Partitionable S → (i k m h : ℕ) (os : List Offer) (st : State) → i < size S → is_out S i k ≡ true → k ≤ m
      → Life S i m os st h → shown_view st ≡ adopted_view S i (k - 1)
