-- Which calls from C are refused, by which number at which word, and that every other call is accepted. (demand 1; document 01, "Answers
-- and their order"; document 02, E10 and E11) Here the answers of a call stand in one chain, and so does what it writes. The definitions of specs/Calls.antt go through
-- the struct that the bytes hold; once the bytes have passed their check, the struct's own check has nothing left to refuse.
-- Proved in proofs/Refusals.antt.
use Rattle.std.specs.Prelude.{ℕ, ◌-◌, ◌*◌, ◌^◌, ◌≡◌, Bool, true, false, cond, ◌&&◌, ◌||◌, List, [], ◌∷◌, length, eqb, ltb}
use Rattle.words.specs.Word.{word_at}
use Rattle.words.specs.Verdict.{is_accepted, between, single, and_then, first_refusal}
use Rattle.setup.specs.Setup.{size_in, partitionable_in, front_in, setup_of}
use Rattle.setup.specs.Check.{check_setup}
use Rattle.words.specs.Verdict.{Verdict}
use Rattle.rules.specs.Hearing.{reading_of}
use Rattle.changes.specs.Pending.{most_lead, pending_of}
use Rattle.changes.specs.Frame.{same_frame}
use Rattle.views.specs.ViewWord.{read_words, views_seen}
use Rattle.image.specs.Layout.{image_length}
use Rattle.image.specs.Check.{left_in, check_image}
use Rattle.presence.specs.Opening.{fresh}
use Rattle.presence.specs.Step.{judgement_for, after_round}
use Rattle.presence.specs.Change.{with_pending}
use Rattle.presence.specs.Image.{state_of}
use Rattle.calls.specs.Calls.{Called, refused_call, wrote, check_call, open_call, step_call, change_call, save_call, outgoing_call, outgoing_view_call, cause_call}
use Rattle.presence.specs.declared.State.{State}

-- N, by the head of the bytes
abbrev pub size_of : List ℕ → ℕ
size_of s = size_in (word_at s 0)

-- the output has the length of an image with so many rounds left of the setup at the front of s, an image's or a setup's bytes
abbrev pub has_room : List ℕ → ℕ → List ℕ → Bool
has_room s left out = eqb (length out) (image_length (front_in (word_at s)) (size_of s) left (partitionable_in (word_at s 0)))

-- the read has N words, or 2N where the setup of the image is partitionable
abbrev pub has_words : List ℕ → List ℕ → Bool
has_words image read = eqb (length read) (read_words (partitionable_in (word_at image 0)) (size_of image) * 4)

-- the view words of such a read
abbrev pub seen_in : List ℕ → List ℕ → ℕ → List ℕ
seen_in image read controller = views_seen (partitionable_in (word_at image 0)) (size_of image) read controller

-- ---- the answers, in their order

-- opening: 1 to 6 and 22 for the setup, 7 for the own number, 9 for the output
unfoldable pub open_verdict : List ℕ → ℕ → List ℕ → Verdict
open_verdict setup own out =
    and_then (check_setup setup) (first_refusal (single (between 1 (size_of setup) own) 7 0 ∷ single (has_room setup 0 out) 9 0 ∷ []))

-- step: 1 to 8 and 22 for the image, 9 for the output or the read, 10 for a controller bit at N or above; the image after it has one round less to go
unfoldable pub step_verdict : List ℕ → List ℕ → ℕ → List ℕ → Verdict
step_verdict image read controller out =
    and_then (check_image image)
    (first_refusal (single (has_room image (left_in image - 1) out && has_words image read) 9 0 ∷ single (ltb controller (2 ^ size_of image)) 10 0 ∷ []))

-- change: 1 to 8 and 22 for the image, 1 to 6 and 22 for the new setup, 23 where anything but P, R and the criticalities differs or either side
-- fades, 24 where a change is pending or the lead is out of range, 9 for the output, in which the rounds left are the lead
unfoldable pub changing_verdict : List ℕ → List ℕ → ℕ → List ℕ → Verdict
changing_verdict image new lead out =
    and_then (check_image image)
    (and_then (check_setup new)
    (first_refusal
    (single (same_frame (setup_of image) (setup_of new)) 23 0
    ∷ single (eqb (left_in image) 0 && between 1 most_lead lead) 24 0
    ∷ single (has_room image lead out) 9 0
    ∷ [])))

-- saving: 1 to 8 and 22 for the image, 9 for the output
unfoldable pub saving_verdict : List ℕ → List ℕ → Verdict
saving_verdict image out = and_then (check_image image) (first_refusal (single (has_room image (left_in image) out) 9 0 ∷ []))

-- ---- what a call does

-- accepted, it answers number 0 and writes the image of st; refused, it answers the verdict and leaves its output as it was
unfoldable pub answering : Verdict → ℕ → State → List ℕ → Called
answering v health st out = cond (is_accepted v) (wrote health st) (refused_call v.number v.index out)

-- one of these numbers
unfoldable pub one_of : List ℕ → ℕ → Bool
one_of [] k = false
one_of (n ∷ ns) k = eqb k n || one_of ns k

-- of all calls, whatever bytes they are lent
pub record Refusals : Type 0 where
  -- an accepted opening writes the fresh module
  pub opening : (setup : List ℕ) (own : ℕ) (out : List ℕ)
      → open_call setup own out ≡ answering (open_verdict setup own out) 0 (fresh (setup_of setup) own) out
  -- an accepted step answers the health vector that the rules give, and writes the state after the round
  pub step : (image read : List ℕ) (controller : ℕ) (out : List ℕ)
      → let st = state_of image in
      let this = reading_of (size_of image) read controller in
      step_call image read controller out ≡ answering (step_verdict image read controller out) (judgement_for st this).health (after_round st this (seen_in image read controller)) out
  -- an accepted change writes the state that was read, with the change pending
  pub changing : (image new : List ℕ) (lead : ℕ) (out : List ℕ)
      → change_call image new lead out ≡ answering (changing_verdict image new lead out) 0 (with_pending (state_of image) (pending_of (setup_of new) lead)) out
  -- accepted saving writes the state that was read
  pub saving : (image out : List ℕ) → save_call image out ≡ answering (saving_verdict image out) 0 (state_of image) out
  -- the numbers that a call can answer
  pub setup-numbers : (setup : List ℕ) → one_of (0 ∷ 1 ∷ 2 ∷ 3 ∷ 4 ∷ 5 ∷ 6 ∷ 22 ∷ []) (check_call setup).number ≡ true
  pub opening-numbers : (setup : List ℕ) (own : ℕ) (out : List ℕ)
      → one_of (0 ∷ 1 ∷ 2 ∷ 3 ∷ 4 ∷ 5 ∷ 6 ∷ 7 ∷ 9 ∷ 22 ∷ []) (open_call setup own out).answer.number ≡ true
  pub step-numbers : (image read : List ℕ) (controller : ℕ) (out : List ℕ)
      → one_of (0 ∷ 1 ∷ 2 ∷ 3 ∷ 4 ∷ 5 ∷ 6 ∷ 7 ∷ 8 ∷ 9 ∷ 10 ∷ 22 ∷ []) (step_call image read controller out).answer.number ≡ true
  pub change-numbers : (image new : List ℕ) (lead : ℕ) (out : List ℕ)
      → one_of (0 ∷ 1 ∷ 2 ∷ 3 ∷ 4 ∷ 5 ∷ 6 ∷ 7 ∷ 8 ∷ 9 ∷ 22 ∷ 23 ∷ 24 ∷ []) (change_call image new lead out).answer.number ≡ true
  pub saving-numbers : (image out : List ℕ)
      → one_of (0 ∷ 1 ∷ 2 ∷ 3 ∷ 4 ∷ 5 ∷ 6 ∷ 7 ∷ 8 ∷ 9 ∷ 22 ∷ []) (save_call image out).answer.number ≡ true
  pub outgoing-numbers : (image : List ℕ) → one_of (0 ∷ 1 ∷ 2 ∷ 3 ∷ 4 ∷ 5 ∷ 6 ∷ 7 ∷ 8 ∷ 22 ∷ []) (outgoing_call image).number ≡ true
  pub outgoing-view-numbers : (image : List ℕ) → one_of (0 ∷ 1 ∷ 2 ∷ 3 ∷ 4 ∷ 5 ∷ 6 ∷ 7 ∷ 8 ∷ 22 ∷ []) (outgoing_view_call image).number ≡ true
  pub cause-numbers : (n controller word : ℕ) → one_of (0 ∷ 2 ∷ 10 ∷ []) (cause_call n controller word).number ≡ true
