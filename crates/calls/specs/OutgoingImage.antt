-- The word that C reads from an accepted image is heard by every receiver whose controller bit for it is 1. (document 02, E7 and E11)
-- Proved in proofs/OutgoingImage.antt.
use Rattle.std.specs.Prelude.{◌≡◌, true, false, List, ℕ}
use Rattle.rules.specs.Hearing.{word_heard}
use Rattle.words.specs.Word.{word_at}
use Rattle.setup.specs.Setup.{partitionable_in}
use Rattle.views.specs.ViewWord.{view_word_heard}
use Rattle.calls.specs.Calls.{outgoing_call, outgoing_view_call, cause_call}
use Rattle.calls.specs.Refusals.{size_of}

-- of all bytes
pub record OutgoingImage : Type 0 where
  -- by rule 2
  pub heard : (image : List ℕ) → (outgoing_call image).number ≡ 0 → word_heard (size_of image) (outgoing_call image).word ≡ true
  -- by the call that answers why a word is not heard: it is
  pub cause : (image : List ℕ) → (outgoing_call image).number ≡ 0
      → ((cause_call (size_of image) 1 (outgoing_call image).word).number ≡ 0) × ((cause_call (size_of image) 1 (outgoing_call image).word).cause ≡ 0)
  -- and so is its view word, where the setup is partitionable (document 02, E11)
  pub view-heard : (image : List ℕ) → partitionable_in (word_at image 0) ≡ true → (outgoing_view_call image).number ≡ 0
      → view_word_heard (size_of image) (outgoing_view_call image).word ≡ true
  -- else it is 0
  pub no-view : (image : List ℕ) → partitionable_in (word_at image 0) ≡ false → (outgoing_view_call image).word ≡ 0
