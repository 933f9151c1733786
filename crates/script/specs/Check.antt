-- Which run scripts are accepted, and the number and index by which the others are refused: 16, then 1 to 6 and 22, then 12, 13 and 15 word by word, 14 last.
-- (document 01, "Answers and their order")
use Rattle.std.specs.Prelude.{Result, Ok, Err, ℕ, zero, suc, ◌+◌, ◌-◌, ◌/◌, Bool, false, cond, not, ◌&&◌, ◌||◌, List, [], ◌∷◌, length, eqb, leb, ltb}
use Rattle.words.specs.Word.{word_at}
use Rattle.words.specs.Bits.{bit}
use Rattle.words.specs.Verdict.{verdict, between, single, and_then, outcome, first_refusal}
use Rattle.setup.specs.Setup.{size_in}
use Rattle.setup.specs.Check.{check_front}
use Rattle.words.specs.Verdict.{Verdict}
use Rattle.words.specs.Refusal.{code}
use Rattle.words.specs.declared.Number.{Number}
use Rattle.script.specs.Words.{cast_at, events_at, most_bytes, most_rounds, kind_of, is_partitionable, cast_in, cast_ok, sender_in, event_ok, rounds_in, play_ok, due_after, is_play}
use Rattle.script.specs.declared.Scan.{Scan}

-- ---- one word after the cast

-- the number by which a play w is refused after so many rounds, or 0. 12: a wrong count; 15: over 100,000 rounds
unfoldable pub play_refusal : ℕ → ℕ → ℕ
play_refusal rounds w = cond (play_ok w) (cond (leb (rounds + rounds_in w) most_rounds) 0 15) 12

-- the number by which a loss or a lie w is refused, or 0. 12: a wrong kind, spare bits, sender or mask; 13: a lie by one outside the cast
unfoldable pub event_refusal : ℕ → ℕ → ℕ → ℕ
event_refusal n cast w = cond (between 7 8 (kind_of w) && event_ok n w) (cond (eqb (kind_of w) 7 || bit cast (sender_in w - 1)) 0 13) 12

-- the number of a refusal as code has it, or 0
abbrev pub number_told : Result (Unit {0}) Number → ℕ
number_told (Ok _) = 0
number_told (Err number) = code number

-- the number by which the word w is refused, or 0; a told word that is due is taken as it is
unfoldable pub word_refusal : ℕ → ℕ → Scan → ℕ → ℕ
word_refusal n cast sc w =
    cond (eqb sc.due 0)
    (cond (eqb (kind_of w) 9) (play_refusal sc.rounds w) (event_refusal n cast w))
    0

-- what is known after a word that is not refused: a play plays all events before it, any other word is one or belongs to one
unfoldable pub scanned : Bool → Scan → ℕ → Scan
scanned partitionable sc w =
    let play = is_play sc.due w in
    record {
      due = due_after partitionable sc.due w;
      pending = not play;
      rounds = cond play (sc.rounds + rounds_in w) sc.rounds;
    }

-- no told word missing, every event played, at least one play, else number 14
unfoldable pub finished : Scan → Bool
finished sc = eqb sc.due 0 && not sc.pending && ltb 0 sc.rounds

-- ---- the words that are left, from `at` on

-- 12, 13 and 15 word by word, each at its word; then 14 at the word count
unfoldable pub scan : List ℕ → ℕ → ℕ → ℕ → ℕ → Scan → Verdict
scan s n cast zero at sc = outcome (single (finished sc) 14 at)
scan s n cast (suc left) at sc =
    let w = word_at s at in
    and_then (verdict (word_refusal n cast sc w) at) (scan s n cast left (at + 1) (scanned (is_partitionable s) sc w))

-- what is known before the first of these words
abbrev pub unscanned : Scan
unscanned = record { due = 0; pending = false; rounds = 0 }

-- the cast stands first, else 12, and without any word 14 at the word count
unfoldable pub check_cast : List ℕ → ℕ → Verdict
check_cast s n =
    let count = length s / 4 in
    first_refusal (single (ltb (cast_at s) count) 14 count ∷ single (cast_ok n (word_at s (cast_at s))) 12 (cast_at s) ∷ [])

-- the cast, then the words after it
unfoldable pub check_play : List ℕ → ℕ → Verdict
check_play s n = and_then (check_cast s n) (scan s n (cast_in (word_at s (cast_at s))) (length s / 4 - events_at s) (events_at s) unscanned)

-- the verdict on a run script: its length, the setup at its front, the rest
unfoldable pub check_script : List ℕ → Verdict
check_script s =
    and_then (outcome (single (leb (length s) most_bytes) 16 0)) (and_then (check_front s) (check_play s (size_in (word_at s 0))))
