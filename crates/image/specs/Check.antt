-- The check of a saved state: numbers 1 to 8 and 22 in their order, each with the index of its word. (document 01, "Answers and their order";
-- document 02, E9, E10 and E11)
use Rattle.std.specs.Prelude.{ℕ, zero, suc, Option, Some, None, Bool, cond, ◌&&◌, List, [], ◌∷◌, ◌++◌, length, ◌==◌}
use Rattle.words.specs.Word.{word_at}
use Rattle.words.specs.Verdict.{is_accepted, Test, single, and_then, first_refusal}
use Rattle.words.specs.Verdict.{Verdict}
use Rattle.setup.specs.Setup.{size_in, partitionable_in, fades_in, front_in}
use Rattle.setup.specs.Layout.{head_at, front_words}
use Rattle.setup.specs.Check.{word_tests, check_head}
use Rattle.changes.specs.Words.{change_tests}
use Rattle.views.specs.Section.{view_tests}
use Rattle.image.specs.Layout.{own_at, latest_at, earlier_at, left_at, views_at, image_length}
use Rattle.image.specs.Words.{view_in, own_number_ok, own_ok, syndrome_ok}
use Rattle.image.specs.Rows.{row_tests}
use Rattle.image.specs.Counters.{counter_tests}

-- numbers 7 and 8 of the words between those of the setup, which are the first `front`, and the accounts: own number and view, rows, the two syndromes
abbrev pub before_accounts : (ℕ → ℕ) → ℕ → ℕ → List Test
before_accounts w front n =
    single (own_number_ok n (w (own_at front n))) 7 (own_at front n)
    ∷ single (own_ok n (w (own_at front n))) 8 (own_at front n)
    ∷ row_tests w front n
    ∷ single (syndrome_ok n (w (latest_at front n))) 8 (latest_at front n)
    ∷ single (syndrome_ok n (w (earlier_at front n))) 8 (earlier_at front n)
    ∷ []

-- numbers 7 and 8 of the words w of an image of n modules, whose setup fades or counts: those, accounts, the pending change, the views
abbrev pub tail_tests : Bool → (ℕ → ℕ) → ℕ → List Test
tail_tests fades w n =
    let front = front_words fades in
    before_accounts w front n
    ++ (counter_tests fades w n
    ++ (change_tests fades w n (left_at front n)
    ++ view_tests (partitionable_in (w head_at)) w n (view_in (w (own_at front n))) (views_at front n (w (left_at front n)))))

unfoldable pub check_tail : Bool → (ℕ → ℕ) → ℕ → Verdict
check_tail fades w n = first_refusal (tail_tests fades w n)

-- numbers 4 or 22 to 8: the words of the setup after the head, then the others
abbrev pub image_tests : List ℕ → ℕ → List Test
image_tests s n = word_tests s n ++ tail_tests (fades_in (word_at s)) (word_at s) n

-- the rounds left; 0 where the bytes are too short to hold them, and then they are too short for that as well
abbrev pub left_in : List ℕ → ℕ
left_in s = word_at s (left_at (front_in (word_at s)) (size_in (word_at s head_at)))

-- the length in bytes that the head, the kind of the second word and the rounds left ask for
abbrev pub image_length_in : List ℕ → ℕ
image_length_in s = image_length (front_in (word_at s)) (size_in (word_at s head_at)) (left_in s) (partitionable_in (word_at s head_at))

-- N by the head where numbers 1 to 3 accept, else 0
unfoldable pub image_size : List ℕ → ℕ
image_size s = cond (is_accepted (check_head s (length s == image_length_in s))) (size_in (word_at s head_at)) 0

-- such a size as code answers it: where it is 0 there is none
abbrev pub found_size : ℕ → Option ℕ
found_size zero = None
found_size (suc n) = Some (suc n)

-- numbers 1 to 8 and 22
unfoldable pub check_image : List ℕ → Verdict
check_image s = and_then (check_head s (length s == image_length_in s)) (first_refusal (image_tests s (size_in (word_at s head_at))))

-- The tests of the words that stand alone, as one pass joins them.
abbrev pub words_right : (ℕ → ℕ) → ℕ → ℕ → Bool
words_right w front n =
    (own_number_ok n (w (own_at front n)) && own_ok n (w (own_at front n))) && (syndrome_ok n (w (latest_at front n)) && syndrome_ok n (w (earlier_at front n)))
