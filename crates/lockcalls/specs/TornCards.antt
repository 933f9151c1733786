-- Scan locks on a partitionable stand, whose scan locks take the adopted views. (document 02, E11) Cards that adopt the same views hold the same locks,
-- however much is lost; and when the cable is torn, at most one part goes on: on the others the locks are as they were.
-- Proved in proofs/TornCards.antt, from what crates/adoption states. Nothing is asked of the fault limit.
use Rattle.std.specs.Prelude.{ℕ, suc, ◌-◌, ◌≤◌, ◌<◌, ◌≡◌, ◌≢◌, true, false, List, []}
use Rattle.presence.specs.Shown.{shown_view}
use Rattle.agreement.specs.Session.{Session, Accepted, Partitionable, size, u, RuleFollower}
use Rattle.agreement.specs.Images.{SetUp}
use Rattle.adoption.specs.Adopts.{is_out, OneFaced, TornInto}
use Rattle.scanlock.specs.Locks.{joystick_of}
use Rattle.scanlock.specs.ByHistory.{locks_after}
use Rattle.scanlock.specs.declared.Event.{Event}
use Rattle.lockcalls.specs.Callers.{HeldLock}
use Rattle.lockcalls.specs.Cards.{Card, told_card, AlikeCards, ImageCard, told_images}

-- ---- cards that adopt the same views

-- Of two rule-followers that are not out after step k, and so were not out before: their locks and joysticks are equal after every round up to it, if no
-- sender gave two rule-followers different view words in a round that they adopted from.
abbrev pub CardsAdopt : Type 0
CardsAdopt =
    (S : Session) → Accepted S → Partitionable S → (last k : ℕ) → k ≤ last → ((j : ℕ) → 0 < j → j ≤ k → OneFaced S (j - u S))
    → (between : ℕ → List Event) → (i i' : ℕ) → RuleFollower S i → RuleFollower S i' → is_out S i k ≡ false → is_out S i' k ≡ false
    → (card : Card S i last) (card' : Card S i' last) → AlikeCards S last between i i' card card' k

-- the same of cards whose states are images: their scan locks are equal byte for byte
abbrev pub ImagesAdopt : Type 0
ImagesAdopt =
    (S : Session) (setup : List ℕ) → SetUp S setup → Partitionable S → (last k : ℕ) → k ≤ last → ((j : ℕ) → 0 < j → j ≤ k → OneFaced S (j - u S))
    → (between : ℕ → List Event) → (i i' : ℕ) → RuleFollower S i → RuleFollower S i' → is_out S i k ≡ false → is_out S i' k ≡ false
    → (card : ImageCard S setup i last) (card' : ImageCard S setup i' last) (lock lock' : List ℕ)
    → HeldLock (size S) (told_images between card k) lock → HeldLock (size S) (told_images between card' k) lock' → lock ≡ lock'

-- ---- the parts of a torn cable

-- Of a card that is on another part than one that goes on after step k + 1.
pub record LeftBehind (S : Session) (between : ℕ → List Event) (i last k : ℕ) (card : Card S i last) : Type 0 where
  -- it is out from then on, and its scan lock is handed in every round the view that it was handed last before
  pub is-out : (m : ℕ) → suc k ≤ m → is_out S i m ≡ true
  pub view-stays : (m : ℕ) → suc k ≤ m → m ≤ last → shown_view (card.state m) ≡ shown_view (card.state k)
  -- So no view frees an axis there any more: as long as no event comes, its locks stay as they are, and its joystick too.
  pub locks-stay : (m : ℕ) → k ≤ m → m ≤ last → ((j : ℕ) → k ≤ j → j ≤ m → between j ≡ [])
      → locks_after (size S) (told_card between card m) ≡ locks_after (size S) (told_card between card k)
  pub joystick-stays : (m : ℕ) → k ≤ m → m ≤ last → ((j : ℕ) → k ≤ j → j ≤ m → between j ≡ [])
      → joystick_of (locks_after (size S) (told_card between card m)) ≡ joystick_of (locks_after (size S) (told_card between card k))

-- At most one part goes on: where rule-follower i is not out after the step that adopts from a round in which the cable is torn, the scan locks of the
-- rule-followers on other parts take no new view.
abbrev pub OnePartGoesOn : Type 0
OnePartGoesOn =
    (S : Session) → Accepted S → Partitionable S → (part : ℕ → ℕ) (k i i' last : ℕ) → k ≤ last → TornInto S part (suc k - u S)
    → RuleFollower S i → RuleFollower S i' → part i ≢ part i' → is_out S i (suc k) ≡ false
    → (between : ℕ → List Event) (card : Card S i' last) → LeftBehind S between i' last k card
