-- Demand 3 for a C caller, whose state is its saved image: the life of an image is the life of a state. (document 01, "A session"; document 02, E10)
-- Proved in proofs/Images.antt.
use Rattle.std.specs.Prelude.{ℕ, suc, ◌+◌, ◌-◌, ◌*◌, ◌≤◌, ◌<◌, ◌≡◌, true, false, ◌≢◌, List, [], ◌∷◌, length}
use Rattle.words.specs.Bits.{bit, full}
use Rattle.setup.specs.Setup.{setup_of, front_of}
use Rattle.setup.specs.Check.{check_setup}
use Rattle.image.specs.Layout.{image_length}
use Rattle.presence.specs.Change.{change_of}
use Rattle.presence.specs.Image.{image_of, state_of}
use Rattle.calls.specs.Calls.{open_call, step_call, change_call, save_call, outgoing_call, outgoing_view_call}
use Rattle.page.specs.Calls.{page_open_call, page_step_call}
use Rattle.page.specs.Refusals.{Refused}
use Rattle.agreement.specs.Session.{Offer, Session, size, u, RuleFollower, round, read_bits, read_bytes, handed, view_word_handed, Common, Bound, unheard, half_heard}
use Rattle.agreement.specs.Life.{Life}
use Rattle.agreement.specs.Demand.{KeptTo}

-- ---- the life of an image

module _ (S : Session) (setup : List ℕ) (i : ℕ) where
  -- Module i of a session, kept by its caller as bytes: the rounds stepped, the changes that the session still offers it before its next step, the
  -- image, and the health vector answered last.
  -- The output and the page lent to a call are any buffers; an accepted call's output is the image from then on.
  pub data ImageLife : ℕ → List Offer → List ℕ → ℕ → Type 0 where
    opens : (out : List ℕ) → (open_call setup (i + 1) out).answer.number ≡ 0
        → ImageLife 0 (S.offers 1 i) (open_call setup (i + 1) out).out (full (size S))
    steps : {k h : ℕ} {image : List ℕ} (out : List ℕ) → ImageLife k [] image h
        → (step_call image (read_bytes S i (suc k)) (read_bits S i (suc k)) out).answer.number ≡ 0
        → ImageLife (suc k) (S.offers (suc (suc k)) i) (step_call image (read_bytes S i (suc k)) (read_bits S i (suc k)) out).out
        (step_call image (read_bytes S i (suc k)) (read_bits S i (suc k)) out).answer.health
    -- the next change that the session offers, in the words of its setup
    changes : {k h : ℕ} {image : List ℕ} {o : Offer} {os : List Offer} (new out : List ℕ) → setup_of new ≡ o.setup → ImageLife k (o ∷ os) image h
        → (change_call image new o.lead out).answer.number ≡ 0 → ImageLife k os (change_call image new o.lead out).out h
    -- the next one, where the module refuses it: nothing is written, as `refused` says it of the call
    skips : {k h : ℕ} {image : List ℕ} {o : Offer} {os : List Offer} → ImageLife k (o ∷ os) image h
        → (change_of (state_of image) o.setup o.lead).number ≢ 0 → ImageLife k os image h
    -- opening and step with a register page
    page-opens : (out page : List ℕ) → (page_open_call setup (i + 1) out page).call.answer.number ≡ 0
        → ImageLife 0 (S.offers 1 i) (page_open_call setup (i + 1) out page).call.out (full (size S))
    page-steps : {k h : ℕ} {image : List ℕ} (out page : List ℕ) → ImageLife k [] image h
        → (page_step_call image (read_bytes S i (suc k)) (read_bits S i (suc k)) out page).call.answer.number ≡ 0
        → ImageLife (suc k) (S.offers (suc (suc k)) i) (page_step_call image (read_bytes S i (suc k)) (read_bits S i (suc k)) out page).call.out
        (page_step_call image (read_bytes S i (suc k)) (read_bits S i (suc k)) out page).call.answer.health
    saves : {k h : ℕ} {image : List ℕ} {os : List Offer} (out : List ℕ) → ImageLife k os image h → (save_call image out).answer.number ≡ 0
        → ImageLife k os (save_call image out).out h
    -- a refused call of any kind that was lent the image's own buffer, as its output or as its page
    refused : {k h : ℕ} {image after : List ℕ} {os : List Offer} → ImageLife k os image h → Refused image after → ImageLife k os after h

-- ---- what holds of every module, within the limit and outside it

-- The setup's bytes are those of the session.
pub record SetUp (S : Session) (setup : List ℕ) : Type 0 where
  pub accepted : (check_setup setup).number ≡ 0
  pub same : S.setup ≡ setup_of setup

-- how long an image of the session is, with so many rounds left until a pending change takes effect
abbrev pub length_with : Session → ℕ → ℕ
length_with S left = image_length (front_of S.setup) (size S) left S.setup.partitionable

-- An opening into an output of the right length is accepted, without a page and with one.
pub record Opens (S : Session) (setup : List ℕ) (i : ℕ) : Type 0 where
  pub alone : (out : List ℕ) → length out ≡ length_with S 0 → (open_call setup (i + 1) out).answer.number ≡ 0
  pub with-page : (out page : List ℕ) → length out ≡ length_with S 0 → length page ≡ 64 → (page_open_call setup (i + 1) out page).call.answer.number ≡ 0

-- Of an image in a life after k steps: it holds the state of a life, in its one form, and what is done next with it is accepted.
pub record Kept (S : Session) (i k : ℕ) (os : List Offer) (image : List ℕ) (h : ℕ) : Type 0 where
  pub life : Life S i k os (state_of image) h
  pub one_form : image ≡ image_of (state_of image)
  -- the next step into an output of the length of the image after it, without a page and with one
  pub stepped : (out : List ℕ) → length out ≡ length_with S ((state_of image).pending.left - 1)
      → (step_call image (read_bytes S i (suc k)) (read_bits S i (suc k)) out).answer.number ≡ 0
  pub page-stepped : (out page : List ℕ) → length out ≡ length_with S ((state_of image).pending.left - 1) → length page ≡ 64
      → (page_step_call image (read_bytes S i (suc k)) (read_bits S i (suc k)) out page).call.answer.number ≡ 0
  -- a change that the module accepts, in accepted words, into an output of the length of the image after it
  pub changed : (new : List ℕ) (lead : ℕ) (out : List ℕ) → (check_setup new).number ≡ 0 → (change_of (state_of image) (setup_of new) lead).number ≡ 0
      → length out ≡ length_with S lead → (change_call image new lead out).answer.number ≡ 0
  -- saving writes the same bytes
  pub saved : (out : List ℕ) → length out ≡ length_with S (state_of image).pending.left → ((save_call image out).answer.number ≡ 0) × ((save_call image out).out ≡ image)
  -- The word that presence_outgoing gives is the one handed out in step k, of which `sent` and `Bound` speak: a caller who puts it on the bus
  -- in its round has met what binds a rule-follower.
  pub outgoing : outgoing_call image ≡ record { number = 0; index = 0; word = handed S i k }
  -- and so is the view word that presence_outgoing_view gives, of which `view_word_sent` and `BoundViews` speak; 0 where the setup is not partitionable
  pub outgoing-view : outgoing_view_call image ≡ record { number = 0; index = 0; word = view_word_handed S i k }

-- ---- what holds of rule-followers after round k, as `Agreement` says it of states

pub record ImageAgreement (S : Session) (setup : List ℕ) (k : ℕ) : Type 0 where
  -- the health vectors answered, and every penalty, reward, the view and the limits that hold in the images, are equal at all rule-followers
  pub agree : (i i' h h' : ℕ) (os os' : List Offer) (image image' : List ℕ) → RuleFollower S i → RuleFollower S i'
      → ImageLife S setup i k os image h → ImageLife S setup i' k os' image' h'
      → (h ≡ h') × ((state_of image).counters ≡ (state_of image').counters) × ((state_of image).setup ≡ (state_of image').setup)
  -- so is the change that is pending, right after the step
  pub after-step : (i i' h h' : ℕ) (image image' : List ℕ) → RuleFollower S i → RuleFollower S i'
      → ImageLife S setup i k (S.offers (suc k) i) image h → ImageLife S setup i' k (S.offers (suc k) i') image' h'
      → (state_of image).pending ≡ (state_of image').pending
  -- whoever is unheard in r = k - 2u - 1 has health 0 at every rule-follower
  pub charged : (j : ℕ) → j < size S → unheard S (k - 2 * u S - 1) j ≡ true
      → (i h : ℕ) (os : List Offer) (image : List ℕ) → RuleFollower S i → ImageLife S setup i k os image h → bit h j ≡ false
  -- a rule-follower heard in r by all rule-followers has health 1 at each, unless a sender other than itself was half heard in r - u - 1
  pub cleared : (j : ℕ) → RuleFollower S j → ((l : ℕ) → RuleFollower S l → (round S (k - 2 * u S - 1)).hears l j ≡ true)
      → ((l : ℕ) → l < size S → l ≢ j → half_heard S (k - 2 * u S - 1 - u S - 1) l ≡ false)
      → (i h : ℕ) (os : List Offer) (image : List ℕ) → RuleFollower S i → ImageLife S setup i k os image h → bit h j ≡ true

-- For every session with an accepted setup, whatever its cast, its controller bits, its words and the changes offered.
pub record Demand3C : Type 0 where
  -- all modules, in any session: it need not be bound, nor its changes common
  pub opened : (S : Session) (setup : List ℕ) → SetUp S setup → (i : ℕ) → i < size S → Opens S setup i
  pub kept : (S : Session) (setup : List ℕ) → SetUp S setup → (i : ℕ) → i < size S
      → (k h : ℕ) (os : List Offer) (image : List ℕ) → ImageLife S setup i k os image h → Kept S i k os image h
  -- the rule-followers of a session that is bound up to round `last` and whose changes are common up to it, after each of these rounds while the limit
  -- is kept
  pub agreement : (S : Session) (setup : List ℕ) → SetUp S setup → (last : ℕ) → Bound S last → Common S last
      → (k : ℕ) → 0 < k → k ≤ last → KeptTo S k → ImageAgreement S setup k
  -- and what is pending when the changes before step k + 1 are made
  pub before-step : (S : Session) (setup : List ℕ) → SetUp S setup → (last : ℕ) → Bound S last → Common S last → (k : ℕ) → k < last → KeptTo S k
      → (i i' h h' : ℕ) (image image' : List ℕ) → RuleFollower S i → RuleFollower S i'
      → ImageLife S setup i k [] image h → ImageLife S setup i' k [] image' h' → (state_of image).pending ≡ (state_of image').pending
