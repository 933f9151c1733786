-- Cards that come back, sentence by sentence (document 02, E6), by calls from C on a module with document 01's sheet as its setup and a return
-- limit: what the calls give, and what document 02 says. Computed in proofs/ReturnCases.antt.
use Rattle.std.specs.Prelude.{ℕ, suc, ◌*◌, ◌≡◌, Bool, true, false, ◌&&◌, List, [], ◌∷◌, ◌++◌, eqb, get_or, replicate, take}
use Rattle.words.specs.Word.{word_at, put_word, bytes_of}
use Rattle.rules.specs.Hearing.{bus_word}
use Rattle.image.specs.Layout.{image_length}
use Rattle.calls.specs.declared.Answer.{Answer}
use Rattle.calls.specs.Calls.{check_call, open_call, step_call, save_call}

-- ---- the table

-- one line
pub record Case : Type 0 where
  pub gives : ℕ
  pub says : ℕ

-- such a line
abbrev pub case : ℕ → ℕ → Case
case gives says = record { gives = gives; says = says }

-- in every line both are the same
abbrev pub right : List Case → Bool
right [] = true
right (c ∷ cs) = eqb c.gives c.says && right cs

-- an answer has this number and this index
abbrev pub answers : Answer → ℕ → ℕ → List Case
answers a number index = case a.number number ∷ case a.index index ∷ []

-- the words from place i on are these
abbrev pub holds : List ℕ → ℕ → List ℕ → List Case
holds s i [] = []
holds s i (w ∷ ws) = case (word_at s i) w ∷ holds s (suc i) ws

-- ---- a module: N = 4, P = 1, R = 3, criticality 1, all l = 4; Q by the head

-- its setup with this head
abbrev pub setup : ℕ → List ℕ
setup head = bytes_of 7 (λ i. get_or (head ∷ 0x2000_0001 ∷ 0x3000_0003 ∷ 0x4088_0001 ∷ 0x4108_0001 ∷ 0x4188_0001 ∷ 0x4208_0001 ∷ []) i 0)

-- an output for its image, 27 words: 5 N + 7
abbrev pub out : List ℕ
out = replicate 108 0

-- the image of module 1, opened with this head
abbrev pub opened_image : ℕ → List ℕ
opened_image head = (open_call (setup head) 1 out).out

-- the image after steps with these rows, one after the other: all four modules are heard with the same row, so it is the health vector
abbrev pub after : List ℕ → List ℕ → List ℕ
after [] image = image
after (row ∷ rows) image = after rows (step_call image (bytes_of 4 (λ j. bus_word row)) 15 out).out

-- by 13 module 2 alone has health 0: after two such rounds it is out of the view. Then these rows.
abbrev pub away : ℕ → List ℕ → List ℕ
away head rows = after (13 ∷ 13 ∷ rows) (opened_image head)

-- ---- head bits 27..8 give Q, 0 for never or 1..1,000,000; number 2 covers Q, and the spare bits 7..6; bit 5 is taken (document 02, E11)
abbrev pub head_cases : List Case
head_cases =
    answers (check_call (setup 0x1000_0004)) 0 0 ++ (answers (check_call (setup 0x1000_0104)) 0 0 ++ (answers (check_call (setup 0x1F42_4004)) 0 0
    ++ (answers (check_call (setup 0x1F42_4104)) 2 0 ++ (answers (check_call (setup 0x1FFF_FF04)) 2 0 ++ (answers (check_call (setup 0x1000_0024)) 0 0
    ++ (answers (check_call (setup 0x1000_0044)) 2 0 ++ answers (check_call (setup 0x1000_0084)) 2 0))))))

-- ---- an image has N words of kind 15 after those of kind 14, for 3 and 9; at opening the counts are 0. The rounds left (document 02, E10) are the last
-- word.
abbrev pub image_cases : List Case
image_cases =
    holds (opened_image 0x1000_0204) 18 (0xE080_0000 ∷ 0xE100_0000 ∷ 0xE180_0000 ∷ 0xE200_0000 ∷ 0xF080_0000 ∷ 0xF100_0000 ∷ 0xF180_0000 ∷ 0xF200_0000 ∷ 0 ∷ [])
    ++ (case (image_length 3 4 0 false) (27 * 4) ∷ answers (open_call (setup 0x1000_0204) 1 (replicate 88 0)).answer 9 0
    ++ answers (save_call (take 88 (opened_image 0x1000_0204)) out).answer 3 0)

-- ---- Q = 2: a module outside the view with health 1 for Q rounds running returns with penalty P and reward 0
-- The view (word 7), and penalty, reward and return count of module 2 (words 15, 19 and 23): out, after one good round, after two.
abbrev pub held : List ℕ → ℕ → ℕ → ℕ → ℕ → List Case
held image view penalty reward count =
    holds image 7 (view ∷ []) ++ (holds image 15 (penalty ∷ []) ++ (holds image 19 (reward ∷ []) ++ holds image 23 (count ∷ [])))

abbrev pub return_cases : List Case
return_cases =
    held (away 0x1000_0204 []) 0xA001_000D 0xD100_0002 0xE100_0000 0xF100_0000
    ++ (held (away 0x1000_0204 (15 ∷ [])) 0xA001_000D 0xD100_0002 0xE100_0000 0xF100_0001
    ++ held (away 0x1000_0204 (15 ∷ 15 ∷ [])) 0xA001_000F 0xD100_0001 0xE100_0000 0xF100_0000)

-- ---- any health 0 restarts its run; a module that has returned and has a bad round leaves at once; with Q = 0 it stays out, uncounted
abbrev pub restart_cases : List Case
restart_cases =
    held (away 0x1000_0204 (15 ∷ 13 ∷ [])) 0xA001_000D 0xD100_0002 0xE100_0000 0xF100_0000
    ++ (held (away 0x1000_0204 (15 ∷ 13 ∷ 15 ∷ [])) 0xA001_000D 0xD100_0002 0xE100_0000 0xF100_0001
    ++ (held (away 0x1000_0204 (15 ∷ 15 ∷ 13 ∷ [])) 0xA001_000D 0xD100_0002 0xE100_0000 0xF100_0000
    ++ held (away 0x1000_0004 (15 ∷ 15 ∷ [])) 0xA001_000D 0xD100_0002 0xE100_0000 0xF100_0000))

-- ---- a count is below Q, and 0 for a module in the view or where Q is 0; number 8, at the kind 15 word

-- an image with another word at place i
abbrev pub altered : List ℕ → ℕ → ℕ → Answer
altered image i w = (save_call (put_word image i w) out).answer

-- Of module 2, out of the view: 1 with Q = 2, 2 with Q = 2, 1 with Q = 0. Of module 1, in the view: 1. Of module 2: a spare bit, another kind,
-- another number.
abbrev pub count_limit_cases : List Case
count_limit_cases =
    answers (altered (away 0x1000_0204 []) 23 0xF100_0001) 0 0 ++ (answers (altered (away 0x1000_0204 []) 23 0xF100_0002) 8 23
    ++ (answers (altered (away 0x1000_0004 []) 23 0xF100_0001) 8 23 ++ (answers (altered (away 0x1000_0204 []) 22 0xF080_0001) 8 22
    ++ (answers (altered (away 0x1000_0204 []) 23 0xF110_0000) 8 23 ++ (answers (altered (away 0x1000_0204 []) 23 0xE100_0000) 8 23
    ++ answers (altered (away 0x1000_0204 []) 23 0xF180_0000) 8 23)))))

-- every line is right
abbrev pub ReturnCasesRight : Type 0
ReturnCasesRight = right (head_cases ++ (image_cases ++ (return_cases ++ (restart_cases ++ count_limit_cases)))) ≡ true
