-- Which calls with a page are refused, by which number, and that every other one is accepted; and what a refused call of any kind leaves of a
-- buffer that it was lent: the bytes that were there. (demand 1; document 02, E1, "Checks") As calls/specs/Refusals.antt says it
-- of the calls without a page. Proved in proofs/PageRefusals.antt.
use Rattle.std.specs.Prelude.{ℕ, ◌-◌, ◌^◌, ◌≡◌, ◌≢◌, cond, ◌&&◌, List, [], ◌∷◌, ltb}
use Rattle.words.specs.Bits.{full}
use Rattle.words.specs.Verdict.{is_accepted, between, single, and_then, first_refusal}
use Rattle.setup.specs.Setup.{setup_of}
use Rattle.setup.specs.Check.{check_setup}
use Rattle.words.specs.Verdict.{Verdict}
use Rattle.rules.specs.Hearing.{reading_of, causes_of}
use Rattle.image.specs.Check.{left_in, check_image}
use Rattle.presence.specs.Opening.{fresh}
use Rattle.presence.specs.Step.{judgement_for, found_view, after_round}
use Rattle.presence.specs.Shown.{shown_view}
use Rattle.presence.specs.Image.{state_of}
use Rattle.calls.specs.Calls.{refused_call, wrote, open_call, step_call, change_call, save_call}
use Rattle.calls.specs.Refusals.{size_of, has_room, has_words, seen_in}
use Rattle.presence.specs.declared.State.{State}
use Rattle.page.specs.Page.{is_page, page_opened, page_stepped}
use Rattle.page.specs.Host.{write_call}
use Rattle.page.specs.Calls.{PageCalled, page_called, page_open_call, page_step_call}

-- ---- the answers, in their order

-- opening: 1 to 6 for the setup, 7 for the own number, 9 for the output or the page
unfoldable pub page_open_verdict : List ℕ → ℕ → List ℕ → List ℕ → Verdict
page_open_verdict setup own out page =
    and_then (check_setup setup)
    (first_refusal (single (between 1 (size_of setup) own) 7 0 ∷ single (has_room setup 0 out && is_page page) 9 0 ∷ []))

-- step: 1 to 8 for the image, 9 for the output, the read or the page, 10 for a controller bit at N or above
unfoldable pub page_step_verdict : List ℕ → List ℕ → ℕ → List ℕ → List ℕ → Verdict
page_step_verdict image read controller out page =
    and_then (check_image image)
    (first_refusal
    (single (has_room image (left_in image - 1) out && has_words image read && is_page page) 9 0
    ∷ single (ltb controller (2 ^ size_of image)) 10 0
    ∷ []))

-- accepted, a call writes the image of st and the next page; refused, it answers the verdict and leaves output and page as they were
unfoldable pub page_answering : Verdict → ℕ → State → List ℕ → List ℕ → List ℕ → PageCalled
page_answering v health st out next page =
    cond (is_accepted v) (page_called (wrote health st) next) (page_called (refused_call v.number v.index out) page)

-- ---- a buffer that was lent to a refused call

-- A refused call of include/presence.h was lent the bytes `before`, as its output or as its page, and left these: any call that may write, on any
-- other bytes.
pub data Refused (before : List ℕ) : List ℕ → Type 0 where
  opening : (setup : List ℕ) (own : ℕ) → (open_call setup own before).answer.number ≢ 0 → Refused before (open_call setup own before).out
  step : (image read : List ℕ) (controller : ℕ) → (step_call image read controller before).answer.number ≢ 0
      → Refused before (step_call image read controller before).out
  change : (image new : List ℕ) (lead : ℕ) → (change_call image new lead before).answer.number ≢ 0 → Refused before (change_call image new lead before).out
  saving : (image : List ℕ) → (save_call image before).answer.number ≢ 0 → Refused before (save_call image before).out
  page-opening : (setup : List ℕ) (own : ℕ) (page : List ℕ) → (page_open_call setup own before page).call.answer.number ≢ 0
      → Refused before (page_open_call setup own before page).call.out
  page-step : (image read : List ℕ) (controller : ℕ) (page : List ℕ) → (page_step_call image read controller before page).call.answer.number ≢ 0
      → Refused before (page_step_call image read controller before page).call.out
  page-of-opening : (setup : List ℕ) (own : ℕ) (out : List ℕ) → (page_open_call setup own out before).call.answer.number ≢ 0
      → Refused before (page_open_call setup own out before).page
  page-of-step : (image read : List ℕ) (controller : ℕ) (out : List ℕ) → (page_step_call image read controller out before).call.answer.number ≢ 0
      → Refused before (page_step_call image read controller out before).page
  write : (offset value : ℕ) → (write_call before offset value).answer.number ≢ 0 → Refused before (write_call before offset value).page

-- of all calls, whatever bytes they are lent
pub record PageRefusals : Type 0 where
  -- an accepted opening writes the fresh module and its page: health all ones, a full view, no flags, enable 0
  pub opening : (setup : List ℕ) (own : ℕ) (out page : List ℕ)
      → page_open_call setup own out page
      ≡ page_answering (page_open_verdict setup own out page) 0 (fresh (setup_of setup) own) out (page_opened (size_of setup) (full (size_of setup))) page
  -- an accepted step is that of the module, with the page brought up to date, causes by the read as it came
  pub step : (image read : List ℕ) (controller : ℕ) (out page : List ℕ)
      → let st = state_of image in
      let this = reading_of (size_of image) read controller in
      page_step_call image read controller out page
      ≡ page_answering (page_step_verdict image read controller out page) (judgement_for st this).health (after_round st this (seen_in image read controller)) out
      (page_stepped (size_of image) (found_view st) (judgement_for st this).health (shown_view (after_round st this (seen_in image read controller)))
      (causes_of (size_of image) read controller) page) page
  -- nothing lent is altered by a refusal
  pub unaltered : (before after : List ℕ) → Refused before after → after ≡ before
