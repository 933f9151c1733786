-- Where u is 0, renumbering the modules renumbers every health vector, counter and view in every round, adopted views too. (document 02, E8 and E11)
-- The numbers that accusations name are left out. Nobody is offered a change of limits here (E10). Proved in proofs/SameSession.antt.
use Rattle.std.specs.Prelude.{ℕ, suc, ◌≤◌, ◌<◌, ◌≡◌, List}
use Rattle.words.specs.Count.{all}
use Rattle.rules.specs.Causes.{cause_of}
use Rattle.presence.specs.Shown.{shown_view}
use Rattle.presence.specs.declared.State.{State}
use Rattle.agreement.specs.Session.{Offer, Session, Accepted, Partitionable, size, u, bit_in, word_in, hears_view, answer_at, handed, sent, Bound, view_word_handed, view_word_sent, BoundViews, kept_by, kept}
use Rattle.agreement.specs.Life.{Life}
use Rattle.agreement.specs.Existence.{NoChanges}
use Rattle.renumbering.specs.Renumbering.{Renumbering, vector_for, array_for, word_for}
use Rattle.renumbering.specs.States.{state_for}
use Rattle.renumbering.specs.Sessions.{Renumbered, session_for}

-- Of a session S and its renumbered one S', whatever arrives in it, within the fault limit and outside it. "The module" is `to i`, which was i.
pub record SameSession (S : Session) (π : Renumbering (size S)) (S' : Session) : Type 0 where
  -- the renumbered setup is accepted and its u is 0, and S' is bound as far as S is, in its words and in its view words
  pub accepted : Accepted S'
  pub lag : u S' ≡ 0
  pub bound : (last : ℕ) → Bound S last → Bound S' last
  pub bound-views : (last : ℕ) → BoundViews S last → BoundViews S' last
  -- After every round the module holds its state renumbered (view, penalties, rewards, return counts, the previous read, both syndromes, and what it
  -- holds of views), and last answered its health vector renumbered, whatever refused calls lay between in either session.
  pub same : (i k h h' : ℕ) (os os' : List Offer) (st st' : State) → i < size S → Life S i k os st h → Life S' (π.to i) k os' st' h'
      → (st' ≡ state_for (size S) π st) × (h' ≡ vector_for (size S) π h)
  -- so the view that page, bench and scan lock take of it, the adopted one where the setup is partitionable, is renumbered, and it is out or not as before
  pub shown : (i k h h' : ℕ) (os os' : List Offer) (st st' : State) → i < size S → Life S i k os st h → Life S' (π.to i) k os' st' h'
      → (shown_view st' ≡ vector_for (size S) π (shown_view st)) × (st'.views.out ≡ st.views.out)
  -- a word is heard as before, or is not heard for the same cause, and the causes that a step answers move with their modules
  pub cause : (k i j : ℕ) → i < size S → j < size S
      → cause_of (size S) (bit_in S' k (π.to i) (π.to j)) (word_in S' k (π.to i) (π.to j)) ≡ cause_of (size S) (bit_in S k i j) (word_in S k i j)
  pub causes : (i k h h' : ℕ) (os os' : List Offer) (st st' : State) → i < size S → Life S i k os st h → Life S' (π.to i) k os' st' h'
      → (answer_at S' (π.to i) (suc k) st').causes ≡ array_for (size S) π (answer_at S i (suc k) st).causes
  -- where the setup is partitionable, a view word is heard as before
  pub hears-view : Partitionable S → (k i j : ℕ) → i < size S → j < size S → hears_view S' k (π.to i) (π.to j) ≡ hears_view S k i j
  -- every word that is handed out or sent is renumbered, and so is every view word; without head bit 5 there is none, 0, before and after
  pub handed : (i k : ℕ) → i < size S → handed S' (π.to i) k ≡ word_for (size S) π (handed S i k)
  pub sent : (i k : ℕ) → i < size S → sent S' (π.to i) (suc k) ≡ word_for (size S) π (sent S i (suc k))
  pub view-handed : (i k : ℕ) → i < size S → view_word_handed S' (π.to i) k ≡ word_for (size S) π (view_word_handed S i k)
  pub view-sent : (i k : ℕ) → i < size S → view_word_sent S' (π.to i) (suc k) ≡ word_for (size S) π (view_word_sent S i (suc k))
  -- the fault limit of a round is kept or not as before, by the module's view; and so is that of all rounds to k
  pub limit : (i ρ : ℕ) → i < size S → kept_by S' (π.to i) ρ ≡ kept_by S i ρ
  pub in-out : (last : ℕ) → Bound S last → (k : ℕ) → k ≤ last → all k (λ ρ. kept S' (suc ρ)) ≡ all k (λ ρ. kept S (suc ρ))

-- every renumbering of every session with an accepted setup whose u is 0, in which nobody is offered a change
pub record RenumbersSessions : Type 0 where
  pub same : (S : Session) → Accepted S → NoChanges S → u S ≡ 0 → (π : Renumbering (size S)) (S' : Session) → Renumbered S π S' → SameSession S π S'
  -- and there is such a session for each
  pub has : (S : Session) → NoChanges S → (π : Renumbering (size S)) → Renumbered S π (session_for S π)
