-- Which setups are accepted, and the number and index by which the others are refused: numbers 1 to 6, and 22 in the place of 4 where a setup
-- fades. (document 01, "Answers and their order"; the limits stand in the table of "What runs"; document 02, E9)
use Rattle.std.specs.Prelude.{Result, Ok, Err, ℕ, ◌+◌, ◌-◌, ◌*◌, ◌/◌, ◌%◌, ◌^◌, Bool, true, false, cond, not, ◌&&◌, ◌||◌, List, [], ◌∷◌, ◌++◌, length, take, ◌==◌, nat_le, nat_lt}
use Rattle.words.specs.Word.{word_at, field, kind_unit, number_unit}
use Rattle.words.specs.Array.{bounded}
use Rattle.words.specs.Verdict.{Verdict, is_accepted, between, Test, single, each, and_then, outcome, first_refusal}
use Rattle.words.specs.Refusal.{code}
use Rattle.words.specs.declared.Refusal.{Refusal}
use Rattle.doubles.specs.Double.{double_in, is_double}
use Rattle.setup.specs.Layout.{head_at, form_at, penalty_limit_at, reward_limit_at, factor_at, score_limit_at, setup_length}
use Rattle.setup.specs.Limits.{least_modules, most_modules, most_return_limit, most_penalty_limit, most_reward_limit, most_criticality, factor_fits, limit_fits}
use Rattle.setup.specs.Setup.{return_limit_in, size_in, limit_word, place_unit, mark_in, place_in, criticality_in, fades_in, front_in, front_of, setup_of, setup_bytes, blank_setup}
use Rattle.setup.specs.declared.Limits.{Limits}
use Rattle.setup.specs.declared.Limits.TheVariants.{Counts, Fading}
use Rattle.setup.specs.declared.Setup.{Setup}

-- ---- what is asked of a word

-- not empty and whole words, else number 1
unfoldable pub whole : List ℕ → Bool
whole s = not (length s == 0) && length s % 4 == 0

-- a return limit 0..1,000,000, N 2..16
unfoldable pub head_fits : ℕ → ℕ → Bool
head_fits q n = nat_le q most_return_limit && between least_modules most_modules n

-- kind 1, Q and N in range, bits 7..6 clear, else number 2
unfoldable pub head_ok : ℕ → Bool
head_ok w = w / kind_unit == 1 && (head_fits (return_limit_in w) (size_in w) && field 6 2 w == 0)

-- the kind, a limit from 1 to the most, else number 4
unfoldable pub limit_ok : ℕ → ℕ → ℕ → Bool
limit_ok kind most w = between (limit_word kind 1) (limit_word kind most) w

-- a read place 0..N, a criticality 1..100,000
unfoldable pub module_fits : ℕ → ℕ → ℕ → Bool
module_fits n place criticality = nat_le place n && between 1 most_criticality criticality

-- kind 4, the number j + 1 in its turn, fields in range, else number 5
unfoldable pub module_ok : ℕ → ℕ → ℕ → Bool
module_ok n j w = w / number_unit == 4 * 2 ^ 5 + (j + 1) && module_fits n (place_in w) (criticality_in w)

-- no send mark, or one on a module other than 1 whose read place is below its number j + 1
unfoldable pub mark_fits : ℕ → Bool → ℕ → Bool
mark_fits j mark place = not mark || (nat_lt 0 j && nat_le place j)

-- no send mark, or one that fits, else number 6
unfoldable pub mark_ok : ℕ → ℕ → Bool
mark_ok j w = mark_fits j (mark_in w) (place_in w)

-- ---- bytes

-- numbers 1 to 3 with index 0: whole words, a head, a length that fits its N
abbrev pub head_tests : List ℕ → Bool → List Test
head_tests s fits = single (whole s) 1 head_at ∷ single (head_ok (word_at s head_at)) 2 head_at ∷ single fits 3 head_at ∷ []

unfoldable pub check_head : List ℕ → Bool → Verdict
check_head s fits = first_refusal (head_tests s fits)

-- number 4 of the two limits of a setup that counts; number 22 of one that fades: spare bits in the kind 0 word, the factor, the limit, a wrong
-- double at its high half
abbrev pub limit_tests : Bool → (ℕ → ℕ) → List Test
limit_tests true w =
    single (w form_at == 0) 22 form_at
    ∷ single (factor_fits (double_in w factor_at)) 22 factor_at
    ∷ single (limit_fits (double_in w score_limit_at)) 22 score_limit_at
    ∷ []
limit_tests false w =
    single (limit_ok 2 most_penalty_limit (w penalty_limit_at)) 4 penalty_limit_at
    ∷ single (limit_ok 3 most_reward_limit (w reward_limit_at)) 4 reward_limit_at
    ∷ []

-- number 5 or 6 of the word of module j + 1, which stands after the `front` words before the first
unfoldable pub module_test : (ℕ → ℕ) → ℕ → ℕ → ℕ → ℕ → Bool
module_test w front n number j = cond (number == 5) (module_ok n j (w (front + j))) (mark_ok j (w (front + j)))

-- one of them of all n modules
abbrev pub module_tests : (ℕ → ℕ) → ℕ → ℕ → ℕ → Test
module_tests w front n number = each n (module_test w front n number) number front

-- numbers 4 or 22, 5 and 6, each at its word: the limits, then the n module words, first by 5 and then by 6
abbrev pub word_tests : List ℕ → ℕ → List Test
word_tests s n =
    limit_tests (fades_in (word_at s)) (word_at s) ++ (module_tests (word_at s) (front_in (word_at s)) n 5 ∷ module_tests (word_at s) (front_in (word_at s)) n 6 ∷ [])

unfoldable pub check_words : List ℕ → ℕ → Verdict
check_words s n = first_refusal (word_tests s n)

-- the length in bytes that the head and the kind of the second word ask for
abbrev pub length_in : List ℕ → ℕ
length_in s = setup_length (front_in (word_at s)) (size_in (word_at s head_at))

-- a setup by itself: N + 3 words, or N + 6 where it fades
unfoldable pub check_setup : List ℕ → Verdict
check_setup s = and_then (check_head s (length s == length_in s)) (check_words s (size_in (word_at s head_at)))

-- the setup at the front of a run script, which may go on after it
unfoldable pub check_front : List ℕ → Verdict
check_front s = and_then (check_head s (nat_le (length_in s) (length s))) (check_words s (size_in (word_at s head_at)))

-- the part of a run script that is its setup; nothing where that is refused
unfoldable pub setup_part : List ℕ → List ℕ
setup_part s = take (cond (is_accepted (check_front s)) (length_in s) 0) s

-- ---- a setup that is already a struct

-- read places and criticalities have room in their words, and they and the marks hold nothing from n on
unfoldable pub setup_roomy : Setup → Bool
setup_roomy s = nat_lt s.marks (2 ^ s.n) && bounded s.n (2 ^ 5 - 1) s.places && bounded s.n (place_unit - 1) s.criticality

-- its limits have room in their words: P and R are not too wide for them, factor and limit are doubles, as those of code always are
abbrev pub limit_room : Limits → List Test
limit_room (Counts p r) = single (nat_lt p kind_unit) 4 penalty_limit_at ∷ single (nat_lt r kind_unit) 4 reward_limit_at ∷ []
limit_room (Fading factor limit) = single (is_double factor) 22 factor_at ∷ single (is_double limit) 22 score_limit_at ∷ []

-- what its words would not show: Q or N out of range, a limit without room, and 5 with index 0 for the module words
abbrev pub room_tests : Setup → List Test
room_tests s = single (head_fits s.q s.n) 2 head_at ∷ (limit_room s.limits ++ (single (setup_roomy s) 5 0 ∷ []))

unfoldable pub room_verdict : Setup → Verdict
room_verdict s = first_refusal (room_tests s)

-- the verdict on such a setup, number 2, 4, 22, 5 or 6, or 0: whether its words have room for it, then that on its words
unfoldable pub setup_verdict : Setup → Verdict
setup_verdict s = and_then (room_verdict s) (check_words (setup_bytes s) s.n)

-- ---- reading and writing

-- what reading answers: the number and the index, 0 and 0 where nothing is refused, and the setup
pub record SetupRead : Type 0 where
  pub number : ℕ
  pub index : ℕ
  pub setup : Setup

-- reading: 1 to 6 and 22; what is held where a setup is refused is blank
unfoldable pub read_setup : List ℕ → SetupRead
read_setup s =
    let v = check_setup s in
    record { number = v.number; index = v.index; setup = cond (is_accepted v) (setup_of s) blank_setup }

-- the same as code has it; with a refusal it gives no setup
abbrev pub read_told : Result Setup Refusal → SetupRead
read_told (Ok setup) = record { number = 0; index = 0; setup = setup }
read_told (Err e) = record { number = code e.number; index = e.index; setup = blank_setup }

-- writing: a setup outside the limits is refused first, then 9 for an output of another length
unfoldable pub write_verdict : Setup → List ℕ → Verdict
write_verdict s out = and_then (setup_verdict s) (outcome (single (length out == setup_length (front_of s) s.n) 9 0))

-- the output at exit: a refusal leaves it as it was
unfoldable pub written_setup : Setup → List ℕ → List ℕ
written_setup s out = cond (is_accepted (write_verdict s out)) (setup_bytes s) out
