-- A session renumbered: its setup, its cast, and for each round, receiver and sender the controller bit and the word, whose row is renumbered too; where
-- the setup is partitionable, the view word with its view. (document 02, E8; "E8 renumbers told views as well", E11) Of sessions in which nobody is
-- offered a change of limits (E10).
use Rattle.std.specs.Prelude.{ℕ, suc, ◌<◌, ◌≡◌, []}
use Rattle.words.specs.Bits.{bit}
use Rattle.agreement.specs.Session.{Session, Partitionable, size}
use Rattle.agreement.specs.Existence.{NoChanges}
use Rattle.renumbering.specs.Renumbering.{Renumbering, vector_for, word_for}
use Rattle.renumbering.specs.States.{setup_for}

-- the renumbered session
unfoldable pub session_for : (S : Session) → Renumbering (size S) → Session
session_for S π = record {
  setup = setup_for (size S) π S.setup;
  cast = vector_for (size S) π S.cast;
  controller = λ k i j. S.controller k (π.from i) (π.from j);
  word = λ k i j. word_for (size S) π (S.word k (π.from i) (π.from j));
  view = λ k i j. word_for (size S) π (S.view k (π.from i) (π.from j));
  offers = λ k i. [];
}

-- S' is S renumbered, entry by entry; of rounds and modules that a session does not have nothing is asked
pub record Renumbered (S : Session) (π : Renumbering (size S)) (S' : Session) : Type 0 where
  pub setup : S'.setup ≡ setup_for (size S) π S.setup
  pub cast : (j : ℕ) → j < size S → bit S'.cast (π.to j) ≡ bit S.cast j
  pub controller : (k i j : ℕ) → i < size S → j < size S → S'.controller (suc k) (π.to i) (π.to j) ≡ S.controller (suc k) i j
  pub word : (k i j : ℕ) → i < size S → j < size S → S'.word (suc k) (π.to i) (π.to j) ≡ word_for (size S) π (S.word (suc k) i j)
  -- where the setup is not partitionable nobody looks at view words, and nothing is asked of them
  pub view : Partitionable S → (k i j : ℕ) → i < size S → j < size S
      → S'.view (suc k) (π.to i) (π.to j) ≡ word_for (size S) π (S.view (suc k) i j)
  pub no-changes : NoChanges S'
