-- What a page promises beside the equations of its calls. Proved in proofs/Promise.antt. (document 02, E1, E5, E10 and E11)
use Rattle.std.specs.Prelude.{ℕ, ◌≤◌, ◌<◌, ◌≡◌, ◌≢◌, ◌↔◌, true, false, not, ◌&&◌, ◌||◌, List, get_or, length, eqb, ltb}
use Rattle.words.specs.Word.{word_at}
use Rattle.words.specs.Bits.{bit}
use Rattle.words.specs.Count.{any}
use Rattle.rules.specs.Hearing.{reading_of}
use Rattle.rules.specs.Causes.{cause_of}
use Rattle.setup.specs.declared.Limits.TheVariants.{Counts}
use Rattle.accounts.specs.Round.{counters_of}
use Rattle.image.specs.Check.{check_image}
use Rattle.changes.specs.Books.{turned}
use Rattle.changes.specs.declared.Books.{Books}
use Rattle.presence.specs.Step.{books_of, found_view}
use Rattle.presence.specs.Shown.{shown_view}
use Rattle.presence.specs.Image.{state_of}
use Rattle.calls.specs.Calls.{open_call, step_call, change_call, save_call}
use Rattle.page.specs.Page.{cause_at, somebody_charged, interrupt_on}
use Rattle.page.specs.Host.{write_call}
use Rattle.page.specs.Calls.{page_open_call, page_step_call}
use Rattle.page.specs.Refusals.{Refused}

-- A module's image and its page: opened together, stepped together. Between lie changes of limits, saving and taking back the image, refused calls of
-- any kind that were lent the image or the page, and writes of the host.
pub data Paged : List ℕ → List ℕ → Type 0 where
  opens : (setup : List ℕ) (own : ℕ) (out page : List ℕ) → (page_open_call setup own out page).call.answer.number ≡ 0
      → Paged (page_open_call setup own out page).call.out (page_open_call setup own out page).page
  steps : {image page : List ℕ} → Paged image page → (read : List ℕ) (controller : ℕ) (out : List ℕ)
      → (page_step_call image read controller out page).call.answer.number ≡ 0
      → Paged (page_step_call image read controller out page).call.out (page_step_call image read controller out page).page
  changes : {image page : List ℕ} → Paged image page → (new : List ℕ) (lead : ℕ) (out : List ℕ) → (change_call image new lead out).answer.number ≡ 0
      → Paged (change_call image new lead out).out page
  saves : {image page : List ℕ} → Paged image page → (out : List ℕ) → (save_call image out).answer.number ≡ 0 → Paged (save_call image out).out page
  refused-image : {image page after : List ℕ} → Paged image page → Refused image after → Paged after page
  refused-page : {image page after : List ℕ} → Paged image page → Refused page after → Paged image after
  writes : {image page : List ℕ} → Paged image page → (offset value : ℕ) → Paged image (write_call page offset value).page

-- What becomes of a page that is not opened anew, by steps, refused openings and writes of the host, accepted or refused, none of which names
-- flag j: a write names it where it is one of word 2, at offset 8, with bit j set. (Reading changes nothing.)
pub data Unnamed (j : ℕ) (page : List ℕ) : List ℕ → Type 0 where
  here : Unnamed j page page
  stepped : {now : List ℕ} → Unnamed j page now → (image read : List ℕ) (controller : ℕ) (out : List ℕ)
      → Unnamed j page (page_step_call image read controller out now).page
  not_opened : {now : List ℕ} → Unnamed j page now → (setup : List ℕ) (own : ℕ) (out : List ℕ)
      → (page_open_call setup own out now).call.answer.number ≢ 0 → Unnamed j page (page_open_call setup own out now).page
  written : {now : List ℕ} → Unnamed j page now → (offset value : ℕ) → eqb offset 8 && bit value j ≡ false
      → Unnamed j page (write_call now offset value).page

-- all that is promised, of every image and every page
pub record Promise : Type 0 where
  -- An accepted call with a page is the call without it, so what is proved of images (agreement/specs/Images.antt) holds of these too.
  pub same-opening : (setup : List ℕ) (own : ℕ) (out page : List ℕ) → (page_open_call setup own out page).call.answer.number ≡ 0
      → (page_open_call setup own out page).call ≡ open_call setup own out
  pub same_step : (image read : List ℕ) (controller : ℕ) (out page : List ℕ) → (page_step_call image read controller out page).call.answer.number ≡ 0
      → (page_step_call image read controller out page).call ≡ step_call image read controller out
  -- Words 0 and 1 are the health vector that an accepted step answers and the view that is shown of the image that it leaves: the adopted one where
  -- the setup is partitionable, else the local one.
  pub health : (image read : List ℕ) (controller : ℕ) (out page : List ℕ) → (page_step_call image read controller out page).call.answer.number ≡ 0
      → word_at (page_step_call image read controller out page).page 0 ≡ (page_step_call image read controller out page).call.answer.health
  pub view : (image read : List ℕ) (controller : ℕ) (out page : List ℕ) → (page_step_call image read controller out page).call.answer.number ≡ 0
      → word_at (page_step_call image read controller out page).page 1 ≡ shown_view (state_of (page_step_call image read controller out page).call.out)
  -- So a page that goes along with its module shows that view at all times; word 1 before a step is the one before it.
  pub shown : (image page : List ℕ) → Paged image page → word_at page 1 ≡ shown_view (state_of image)
  -- Somebody was charged exactly if rule 8 made a penalty grow, where account is kept by counts: from the accounts that it found, after a change that
  -- is due has taken effect, by the limits that then hold.
  pub grew : (image : List ℕ) (p r health : ℕ) → (check_image image).number ≡ 0
      → let found : Books = turned (books_of (state_of image)) in
      found.setup.limits ≡ Counts p r
      → somebody_charged (state_of image).setup.n (found_view (state_of image)) health
      ≡ any (state_of image).setup.n
      (λ j. ltb (get_or found.counters.penalty j 0) (get_or (counters_of found.setup health found.counters).penalty j 0))
  -- A step sets flag 0 exactly if the view differs from word 1, and flag 1 exactly if somebody was charged, whatever is enabled; a flag that was set
  -- stays set, and the other bits of word 2 stay as they were.
  pub change-flag : (image read : List ℕ) (controller : ℕ) (out page : List ℕ) → (page_step_call image read controller out page).call.answer.number ≡ 0
      → bit (word_at (page_step_call image read controller out page).page 2) 0
      ≡ bit (word_at page 2) 0 || not (eqb (word_at page 1) (shown_view (state_of (page_step_call image read controller out page).call.out)))
  pub charge-flag : (image read : List ℕ) (controller : ℕ) (out page : List ℕ) → (page_step_call image read controller out page).call.answer.number ≡ 0
      → bit (word_at (page_step_call image read controller out page).page 2) 1
      ≡ bit (word_at page 2) 1
      || somebody_charged (state_of image).setup.n (found_view (state_of image)) (page_step_call image read controller out page).call.answer.health
  pub other-flags : (image read : List ℕ) (controller : ℕ) (out page : List ℕ) → (page_step_call image read controller out page).call.answer.number ≡ 0
      → (j : ℕ) → 2 ≤ j → j < 32 → bit (word_at (page_step_call image read controller out page).page 2) j ≡ bit (word_at page 2) j
  -- A step leaves enable and every word from 8 on as they were.
  pub enable-stays : (image read : List ℕ) (controller : ℕ) (out page : List ℕ) → (page_step_call image read controller out page).call.answer.number ≡ 0
      → word_at (page_step_call image read controller out page).page 3 ≡ word_at page 3
  pub other-words : (image read : List ℕ) (controller : ℕ) (out page : List ℕ) → (page_step_call image read controller out page).call.answer.number ≡ 0
      → (i : ℕ) → 8 ≤ i → word_at (page_step_call image read controller out page).page i ≡ word_at page i
  -- Words 4 to 7 are the causes of the read that the step was lent: for each of the N modules that of its word and its controller bit in this read,
  -- as it came, and 0 for modules above N.
  pub causes : (image read : List ℕ) (controller : ℕ) (out page : List ℕ) → (page_step_call image read controller out page).call.answer.number ≡ 0
      → (j : ℕ) → j < (state_of image).setup.n
      → cause_at (page_step_call image read controller out page).page j ≡ cause_of (state_of image).setup.n (bit controller j) (word_at read j)
  pub causes-above : (image read : List ℕ) (controller : ℕ) (out page : List ℕ) → (page_step_call image read controller out page).call.answer.number ≡ 0
      → (j : ℕ) → (state_of image).setup.n ≤ j → j < 16 → cause_at (page_step_call image read controller out page).page j ≡ 0
  -- So a cause is 0 exactly for the modules that rule 2 hears in this read.
  pub heard-exactly : (image read : List ℕ) (controller : ℕ) (out page : List ℕ) → (page_step_call image read controller out page).call.answer.number ≡ 0
      → (j : ℕ) → j < (state_of image).setup.n
      → (cause_at (page_step_call image read controller out page).page j ≡ 0) ↔ (bit (reading_of (state_of image).setup.n read controller).heard j ≡ true)
  -- An opened page has no causes.
  pub no-causes : (setup : List ℕ) (own : ℕ) (out page : List ℕ) → (page_open_call setup own out page).call.answer.number ≡ 0
      → (j : ℕ) → j < 16 → cause_at (page_open_call setup own out page).page j ≡ 0
  -- A write of word 2, at offset 8, clears exactly the flags written as ones, and changes no other word.
  pub clears : (page : List ℕ) (value : ℕ) → length page ≡ 64 → (j : ℕ) → j < 32
      → bit (word_at (write_call page 8 value).page 2) j ≡ bit (word_at page 2) j && not (bit value j)
  pub clears-only : (page : List ℕ) (value : ℕ) → length page ≡ 64 → (i : ℕ) → i ≢ 2 → word_at (write_call page 8 value).page i ≡ word_at page i
  -- A write of word 3, at offset 12, stores it whole, and changes no other word.
  pub stores : (page : List ℕ) (value : ℕ) → length page ≡ 64 → word_at (write_call page 12 value).page 3 ≡ value
  pub stores-only : (page : List ℕ) (value : ℕ) → length page ≡ 64 → (i : ℕ) → i ≢ 3 → word_at (write_call page 12 value).page i ≡ word_at page i
  -- A write at any other offset changes nothing.
  pub elsewhere : (page : List ℕ) (offset value : ℕ) → offset ≢ 8 → offset ≢ 12 → (write_call page offset value).page ≡ page
  -- The interrupt is on exactly if flags and enable share a set bit.
  pub on-exactly : (page : List ℕ) → (interrupt_on page ≡ true) ↔ ((j : ℕ) × (j < 32) × (bit (word_at page 2) j ≡ true) × (bit (word_at page 3) j ≡ true))
  -- A flag that is set is lost only by a write that names it, or with the whole page when it is opened anew.
  pub kept : (j : ℕ) (page now : List ℕ) → j < 32 → Unnamed j page now → bit (word_at page 2) j ≡ true → bit (word_at now 2) j ≡ true
  -- No interrupt is lost: while a flag is set, the interrupt is on whenever the flag is enabled, be it enabled before or later.
  pub stays_on : (j : ℕ) (page now : List ℕ) → j < 32 → Unnamed j page now → bit (word_at page 2) j ≡ true → bit (word_at now 3) j ≡ true
      → interrupt_on now ≡ true
  -- So a view that changes, or a charge, turns it on at once where its flag is enabled: a step leaves enable as it is.
  pub changed : (image read : List ℕ) (controller : ℕ) (out page : List ℕ) → (page_step_call image read controller out page).call.answer.number ≡ 0
      → word_at page 1 ≢ shown_view (state_of (page_step_call image read controller out page).call.out) → bit (word_at page 3) 0 ≡ true
      → interrupt_on (page_step_call image read controller out page).page ≡ true
  pub charged : (image read : List ℕ) (controller : ℕ) (out page : List ℕ) → (page_step_call image read controller out page).call.answer.number ≡ 0
      → somebody_charged (state_of image).setup.n (found_view (state_of image)) (page_step_call image read controller out page).call.answer.health ≡ true
      → bit (word_at page 3) 1 ≡ true → interrupt_on (page_step_call image read controller out page).page ≡ true
