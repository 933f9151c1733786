-- The same for a C caller, whose state is its saved image. (document 02, E8 and E11) Proved in proofs/SameImages.antt.
use Rattle.std.specs.Prelude.{ℕ, ◌<◌, ◌≡◌, List}
use Rattle.setup.specs.Setup.{setup_bytes}
use Rattle.presence.specs.Image.{image_of, state_of}
use Rattle.calls.specs.Calls.{outgoing_call, outgoing_view_call}
use Rattle.agreement.specs.Session.{Offer, Session, size, u}
use Rattle.agreement.specs.Existence.{NoChanges}
use Rattle.agreement.specs.Images.{ImageLife, SetUp}
use Rattle.renumbering.specs.Renumbering.{Renumbering, vector_for, word_for}
use Rattle.renumbering.specs.States.{setup_for, state_for}
use Rattle.renumbering.specs.Sessions.{Renumbered}

-- Of a session S and its renumbered one S', whose modules are opened from the bytes of setups. "The module" is `to i`, which was i.
pub record SameImages (S : Session) (setup : List ℕ) (π : Renumbering (size S)) (S' : Session) : Type 0 where
  -- the renumbered setup, written as bytes, is accepted and is that of S'
  pub set-up : SetUp S' (setup_bytes (setup_for (size S) π S.setup))
  -- after every round the module's image is that of the renumbered state, and its step answered the renumbered health vector
  pub same : (setup' : List ℕ) → SetUp S' setup' → (i k h h' : ℕ) (os os' : List Offer) (image image' : List ℕ) → i < size S
      → ImageLife S setup i k os image h → ImageLife S' setup' (π.to i) k os' image' h'
      → (image' ≡ image_of (state_for (size S) π (state_of image))) × (h' ≡ vector_for (size S) π h)
  -- and the word that it has to put on the bus is renumbered
  pub outgoing : (setup' : List ℕ) → SetUp S' setup' → (i k h h' : ℕ) (os os' : List Offer) (image image' : List ℕ) → i < size S
      → ImageLife S setup i k os image h → ImageLife S' setup' (π.to i) k os' image' h'
      → (outgoing_call image').word ≡ word_for (size S) π (outgoing_call image).word
  -- and so is the view word; without head bit 5 there is none, 0, before and after
  pub outgoing-view : (setup' : List ℕ) → SetUp S' setup' → (i k h h' : ℕ) (os os' : List Offer) (image image' : List ℕ) → i < size S
      → ImageLife S setup i k os image h → ImageLife S' setup' (π.to i) k os' image' h'
      → (outgoing_view_call image').word ≡ word_for (size S) π (outgoing_view_call image).word

-- every renumbering of every session with an accepted setup whose u is 0, in which nobody is offered a change
abbrev pub RenumbersImages : Type 0
RenumbersImages =
    (S : Session) (setup : List ℕ) → SetUp S setup → NoChanges S → u S ≡ 0 → (π : Renumbering (size S)) (S' : Session) → Renumbered S π S'
    → SameImages S setup π S'
