-- Why the scan lock stands above the presence service: rule-following cards that are handed the same events in the same order, each after
-- their own step k and before their own step k + 1, hold equal locks and give equal joystick answers. Proved in proofs/Cards.antt,
-- from demand 3 as crates/agreement states it.
use Rattle.std.specs.Prelude.{ℕ, zero, suc, ◌≤◌, ◌<◌, ◌≡◌, false, List, ◌∷◌, ◌++◌}
use Rattle.presence.specs.Shown.{shown_view}
use Rattle.presence.specs.Image.{state_of}
use Rattle.presence.specs.declared.State.{State}
use Rattle.agreement.specs.Session.{Offer, Session, Accepted, size, RuleFollower, Common, Bound}
use Rattle.agreement.specs.Life.{Life}
use Rattle.agreement.specs.Demand.{KeptTo}
use Rattle.agreement.specs.Images.{ImageLife, SetUp}
use Rattle.scanlock.specs.Axis.{present}
use Rattle.scanlock.specs.Locks.{axis_at, event_of, joystick_of}
use Rattle.scanlock.specs.ByHistory.{locks_after}
use Rattle.scanlock.specs.declared.Event.{Event}
use Rattle.scanlock.specs.declared.Event.TheVariants.{View}
use Rattle.lockcalls.specs.Callers.{HeldLock}

-- ---- a card's own view

-- Of a scan lock that was told h, and is then handed this view: it takes it, and no axis is held by a module that is not in it.
pub record ViewTaken (n : ℕ) (h : List Event) (view : ℕ) : Type 0 where
  pub accepted : (event_of (locks_after n h) (View view)).number ≡ 0
  pub view-is : (locks_after n (View view ∷ h)).view ≡ view
  pub freed : (a : ℕ) → 1 ≤ a → a ≤ 8 → present view (axis_at (locks_after n (View view ∷ h)) a).holder ≡ false
      → (axis_at (locks_after n (View view ∷ h)) a).depth ≡ 0

-- The view that is shown after a card's opening or step is taken, whatever its scan lock was told before and whatever changes it was offered since, within the
-- fault limit and outside it.
abbrev pub ViewsTaken : Type 0
ViewsTaken =
    (S : Session) → Accepted S → (i : ℕ) → i < size S → (k health : ℕ) (os : List Offer) (st : State) → Life S i k os st health
    → (h : List Event) → ViewTaken (size S) h (shown_view st)

-- ---- the cards together

-- A card of a session up to round `last`: the state that it holds after each round, in a life of the session, and the changes that it is then still to
-- be offered before its next step. (A change leaves the view as it is until it takes effect in a step.)
pub record Card (S : Session) (i last : ℕ) : Type 0 where
  pub state : ℕ → State
  pub health : ℕ → ℕ
  pub rest : ℕ → List Offer
  pub lives : (k : ℕ) → k ≤ last → Life S i k (rest k) (state k) (health k)

-- What a scan lock is handed up to round k, the newest first: after each step the view that is then shown, and between two steps any events.
-- `between k` are those after step k and before step k + 1; they may be none, so this speaks of the moment after the step too.
unfoldable pub history : (ℕ → List Event) → (ℕ → ℕ) → ℕ → List Event
history between views zero = between zero
history between views (suc k) = between (suc k) ++ (View (views (suc k)) ∷ history between views k)

-- what the scan lock of a card is told: what its own states show, and the events between
abbrev pub told_card : {S : Session} {i last : ℕ} → (ℕ → List Event) → Card S i last → ℕ → List Event
told_card between card k = history between (λ j. shown_view (card.state j)) k

-- Of two cards after round k.
pub record AlikeCards (S : Session) (last : ℕ) (between : ℕ → List Event) (i i' : ℕ) (card : Card S i last) (card' : Card S i' last)
    (k : ℕ) : Type 0 where
  pub histories : told_card between card k ≡ told_card between card' k
  pub locks : locks_after (size S) (told_card between card k) ≡ locks_after (size S) (told_card between card' k)
  pub joysticks : joystick_of (locks_after (size S) (told_card between card k)) ≡ joystick_of (locks_after (size S) (told_card between card' k))
  -- what C callers hold is equal byte for byte
  pub images : (image image' : List ℕ) → HeldLock (size S) (told_card between card k) image → HeldLock (size S) (told_card between card' k) image'
      → image ≡ image'

-- For every session that demand 3 speaks of whose setup is not partitionable, every list of events and every two rule-followers, while the fault limit is
-- kept and changes are common. Where it is partitionable, specs/TornCards.antt says what holds of the views that are adopted.
abbrev pub CardsAgree : Type 0
CardsAgree =
    (S : Session) → Accepted S → S.setup.partitionable ≡ false → (last : ℕ) → Bound S last → Common S last → (k : ℕ) → k ≤ last → KeptTo S k → (between : ℕ → List Event)
    → (i i' : ℕ) → RuleFollower S i → RuleFollower S i' → (card : Card S i last) (card' : Card S i' last)
    → AlikeCards S last between i i' card card' k

-- ---- the same of cards whose states are images, as C callers keep them

-- a card whose state after each round is an image, in an image's life of the session
pub record ImageCard (S : Session) (setup : List ℕ) (i last : ℕ) : Type 0 where
  pub image : ℕ → List ℕ
  pub health : ℕ → ℕ
  pub rest : ℕ → List Offer
  pub lives : (k : ℕ) → k ≤ last → ImageLife S setup i k (rest k) (image k) (health k)

-- what the scan lock of such a card is handed: what its images show
abbrev pub told_images : {S : Session} {setup : List ℕ} {i last : ℕ} → (ℕ → List Event) → ImageCard S setup i last → ℕ → List Event
told_images between card k = history between (λ j. shown_view (state_of (card.image j))) k

-- the scan locks that two such cards hold are equal byte for byte, where the setup is not partitionable
abbrev pub ImagesAgree : Type 0
ImagesAgree =
    (S : Session) (setup : List ℕ) → SetUp S setup → S.setup.partitionable ≡ false → (last : ℕ) → Bound S last → Common S last
    → (k : ℕ) → k ≤ last → KeptTo S k → (between : ℕ → List Event) → (i i' : ℕ) → RuleFollower S i → RuleFollower S i'
    → (card : ImageCard S setup i last) (card' : ImageCard S setup i' last) (lock lock' : List ℕ)
    → HeldLock (size S) (told_images between card k) lock → HeldLock (size S) (told_images between card' k) lock' → lock ≡ lock'
