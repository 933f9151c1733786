-- The register page, sentence by sentence (document 02, E1, E5 and E10), on a module with document 01's sheet as its setup: what the calls give, and what
-- document 02 says. Computed in proofs/Cases.antt.
use Rattle.std.specs.Prelude.{ℕ, ◌≡◌, Bool, true, false, ◌&&◌, List, [], ◌∷◌, ◌++◌, eqb, get_or, replicate}
use Rattle.words.specs.Word.{bytes_of}
use Rattle.rules.specs.Hearing.{bus_word}
use Rattle.views.specs.ViewWord.{view_word}
use Rattle.image.specs.Layout.{image_length}
use Rattle.calls.specs.Calls.{change_call, cause_call}
use Rattle.calls.specs.declared.Answer.{Answer}
use Rattle.calls.specs.declared.CauseAnswer.{CauseAnswer}
use Rattle.calls.specs.declared.WordAnswer.{WordAnswer}
use Rattle.page.specs.Page.{put_causes}
use Rattle.page.specs.Host.{Written, read_call, write_call, interrupt_call}
use Rattle.page.specs.Calls.{PageCalled, page_open_call, page_step_call}

-- ---- the table

-- one line: numbers, or the bytes of a page
pub record Case : Type 0 where
  pub gives : List ℕ
  pub says : List ℕ

-- such a line
abbrev pub case : List ℕ → List ℕ → Case
case gives says = record { gives = gives; says = says }

-- two lists are the same
abbrev pub same : List ℕ → List ℕ → Bool
same [] [] = true
same [] (y ∷ ys) = false
same (x ∷ xs) [] = false
same (x ∷ xs) (y ∷ ys) = eqb x y && same xs ys

-- in every line both are the same
abbrev pub right : List Case → Bool
right [] = true
right (c ∷ cs) = same c.gives c.says && right cs

-- a page with these words 0 to 3, and the rest 0
abbrev pub page : ℕ → ℕ → ℕ → ℕ → List ℕ
page health view flags enable = bytes_of 16 (λ i. get_or (health ∷ view ∷ flags ∷ enable ∷ []) i 0)

-- the same with words 4 to 7
abbrev pub page_with : ℕ → ℕ → ℕ → ℕ → ℕ → ℕ → ℕ → ℕ → List ℕ
page_with health view flags enable a b c d = bytes_of 16 (λ i. get_or (health ∷ view ∷ flags ∷ enable ∷ a ∷ b ∷ c ∷ d ∷ []) i 0)

-- number, index and health of an answer
abbrev pub answered : Answer → List ℕ
answered a = a.number ∷ a.index ∷ a.health ∷ []

-- number, index, cause and row of an answer
abbrev pub read : CauseAnswer → List ℕ
read a = a.number ∷ a.index ∷ a.cause ∷ a.row ∷ []

-- number, index and word of an answer
abbrev pub told : WordAnswer → List ℕ
told a = a.number ∷ a.index ∷ a.word ∷ []

-- an accepted call with a page: number 0, index 0, this health vector, and the page at exit
abbrev pub accepts : PageCalled → ℕ → List ℕ → List Case
accepts c health next = case (answered c.call.answer) (0 ∷ 0 ∷ health ∷ []) ∷ case c.page next ∷ []

-- a refused one: this number with index 0 and health 0, and the page as it was
abbrev pub refuses : PageCalled → ℕ → List ℕ → List Case
refuses c number lent = case (answered c.call.answer) (number ∷ 0 ∷ 0 ∷ []) ∷ case c.page lent ∷ []

-- a write: number, index 0, word, and the page at exit
abbrev pub writes : Written → ℕ → ℕ → List ℕ → List Case
writes w number word next = case (told w.answer) (number ∷ 0 ∷ word ∷ []) ∷ case w.page next ∷ []

-- ---- a module: N = 4, Q = 0, P = 1, R = 3, criticality 1, all l = 4

-- its setup
abbrev pub setup : List ℕ
setup =
    bytes_of 7 (λ i. get_or (0x1000_0004 ∷ 0x2000_0001 ∷ 0x3000_0003 ∷ 0x4088_0001 ∷ 0x4108_0001 ∷ 0x4188_0001 ∷ 0x4208_0001 ∷ []) i 0)

-- an output for its image, 27 words
abbrev pub out : List ℕ
out = replicate (image_length 3 4 0 false) 0

-- the same of a partitionable setup, 35 words
abbrev pub parted_out : List ℕ
parted_out = replicate (image_length 3 4 0 true) 0

-- a page before its opening, of any bytes
abbrev pub lent : List ℕ
lent = replicate 64 0xA5

-- a page that is one byte short
abbrev pub short : List ℕ
short = replicate 63 0

-- a read in which all four send this row
abbrev pub rows : ℕ → List ℕ
rows row = bytes_of 4 (λ j. bus_word row)

-- opened as module 1
abbrev pub opened : PageCalled
opened = page_open_call setup 1 out lent

-- a step from what a call left, all four heard with this row, with this page
abbrev pub step : PageCalled → ℕ → List ℕ → PageCalled
step c row p = page_step_call c.call.out (rows row) 15 out p

-- rows of ones: nothing happens
abbrev pub quiet : PageCalled
quiet = step opened 15 opened.page

-- rows with a 0 for module 2: it has health 0, is charged, and stays in the view
abbrev pub charge : PageCalled
charge = step quiet 13 quiet.page

-- the same once more, after the flag was cleared: it is charged and leaves the view
abbrev pub leave : PageCalled
leave = step charge 13 (page 13 15 0 0)

-- ---- a page opened with a module holds health all ones, that module's view, no flags and enable 0; the rest 0
abbrev pub open_cases : List Case
open_cases = accepts opened 0 (page 15 15 0 0)

-- ---- a step updates words 0 and 1, and sets bit 0 if word 1 changed and bit 1 if a module that rule 8 found in the view had health 0
abbrev pub step_cases : List Case
step_cases =
    accepts quiet 15 (page 15 15 0 0) ++ (accepts charge 13 (page 13 15 2 0) ++ (accepts leave 13 (page 13 13 3 0)
    -- health 0 of a module outside the view is no charge
    ++ (accepts (step leave 13 (page 13 13 0 0)) 13 (page 13 13 0 0)
    -- a flag that was set stays, bits without a meaning too, and so does enable; nothing else is set
    ++ (accepts (step leave 15 (page 13 13 3 0x8000_0005)) 15 (page 15 13 3 0x8000_0005)
    ++ (accepts (step quiet 15 (page 15 15 0x8000_0004 3)) 15 (page 15 15 0x8000_0004 3)
    -- word 1 as lent is what the view is compared with
    ++ accepts (step quiet 15 (page 15 14 0 0)) 15 (page 15 15 1 0))))))

-- ---- writing word 2 clears the flags written as ones; word 3 is stored whole. A write tells the interrupt after it, 1 for on.
abbrev pub write_cases : List Case
write_cases =
    writes (write_call (page 13 13 3 0) 8 1) 0 0 (page 13 13 2 0) ++ (writes (write_call (page 13 13 3 0) 8 0xFFFF_FFFC) 0 0 (page 13 13 3 0)
    ++ (writes (write_call (page 13 13 3 0) 8 0xFFFF_FFFF) 0 0 (page 13 13 0 0) ++ (writes (write_call (page 13 13 2 3) 8 1) 0 1 (page 13 13 2 3)
    ++ (writes (write_call (page 13 13 3 0) 12 0x8765_4321) 0 1 (page 13 13 3 0x8765_4321)
    ++ (writes (write_call (page 13 13 3 0xFFFF_FFFF) 12 4) 0 0 (page 13 13 3 4))))))

-- ---- the interrupt is on exactly while flags and enable share a set bit
abbrev pub interrupt_cases : List Case
interrupt_cases =
    case (told (interrupt_call (page 15 15 2 3))) (0 ∷ 0 ∷ 1 ∷ []) ∷ case (told (interrupt_call (page 15 15 3 2))) (0 ∷ 0 ∷ 1 ∷ [])
    ∷ case (told (interrupt_call (page 15 15 2 1))) (0 ∷ 0 ∷ 0 ∷ []) ∷ case (told (interrupt_call (page 15 15 3 0))) (0 ∷ 0 ∷ 0 ∷ [])
    ∷ case (told (interrupt_call (page 15 15 0 3))) (0 ∷ 0 ∷ 0 ∷ [])
    ∷ case (told (interrupt_call (page 15 15 0x8000_0000 0xFFFF_FFFF))) (0 ∷ 0 ∷ 1 ∷ []) ∷ []

-- ---- 17 for a byte offset that isn't the start of one of the 16 words, then 18 for a write outside words 2 and 3, both with index 0; a lent
-- page not of 64 bytes is 9
abbrev pub check_cases : List Case
check_cases =
    case (told (read_call (page 13 15 0 0) 0)) (0 ∷ 0 ∷ 13 ∷ []) ∷ case (told (read_call (page 13 15 0 7) 12)) (0 ∷ 0 ∷ 7 ∷ [])
    ∷ case (told (read_call (page 13 15 0 0) 60)) (0 ∷ 0 ∷ 0 ∷ []) ∷ case (told (read_call (page 13 15 0 0) 13)) (17 ∷ 0 ∷ 0 ∷ [])
    ∷ case (told (read_call (page 13 15 0 0) 64)) (17 ∷ 0 ∷ 0 ∷ []) ∷ case (told (read_call short 13)) (9 ∷ 0 ∷ 0 ∷ [])
    ∷ case (told (interrupt_call short)) (9 ∷ 0 ∷ 0 ∷ [])
    -- 17 comes before 18, and 9 before both
    ∷ writes (write_call (page 15 15 3 0) 13 1) 17 0 (page 15 15 3 0) ++ (writes (write_call (page 15 15 3 0) 64 1) 17 0 (page 15 15 3 0)
    ++ (writes (write_call (page 15 15 3 0) 0 1) 18 0 (page 15 15 3 0) ++ (writes (write_call (page 15 15 3 0) 4 1) 18 0 (page 15 15 3 0)
    ++ (writes (write_call (page 15 15 3 0) 16 1) 18 0 (page 15 15 3 0) ++ (writes (write_call (page 15 15 3 0) 60 1) 18 0 (page 15 15 3 0)
    ++ (writes (write_call short 8 1) 9 0 short ++ (writes (write_call short 13 1) 9 0 short ++ (writes (write_call short 0 1) 9 0 short
    -- opening: 1 to 7 before the page's 9; step: 1 to 8 before it, 10 after it
    ++ (refuses (page_open_call setup 1 out short) 9 short ++ (refuses (page_open_call setup 0 out short) 7 short
    ++ (refuses (page_open_call [] 1 out short) 1 short ++ (refuses (page_step_call opened.call.out (rows 15) 15 out short) 9 short
    ++ (refuses (page_step_call opened.call.out (rows 15) 16 out short) 9 short
    ++ (refuses (page_step_call opened.call.out (rows 15) 16 out (page 15 15 3 0)) 10 (page 15 15 3 0)
    ++ refuses (page_step_call [] (rows 15) 15 out short) 1 short))))))))))))))

-- ---- words 4 to 7 hold the causes of the last read, four modules a word, one byte each, module 1 topmost: 0 heard, 1 controller loss, 2 wrong
-- kind, 3 stray bits, the first that applies

-- a read of these words
abbrev pub words : ℕ → List ℕ → List ℕ
words n ws = bytes_of n (λ j. get_or ws j 0)

-- module 1 heard; 2 lost, of another kind and with stray bits; 3 of another kind and with stray bits; 4 with stray bits
abbrev pub mixed : PageCalled
mixed = page_step_call opened.call.out (words 4 (0x5000_000F ∷ 0x4000_001F ∷ 0x4000_001F ∷ 0x5000_001F ∷ [])) 13 out opened.page

-- the same modules missing, all by controller loss
abbrev pub lost : PageCalled
lost = page_step_call opened.call.out (rows 15) 1 out opened.page

-- a setup of N = 5, all l = 5
abbrev pub five_setup : List ℕ
five_setup =
    words 8 (0x1000_0005 ∷ 0x2000_0001 ∷ 0x3000_0003 ∷ 0x408A_0001 ∷ 0x410A_0001 ∷ 0x418A_0001 ∷ 0x420A_0001 ∷ 0x428A_0001 ∷ [])

-- an output for its image
abbrev pub five_out : List ℕ
five_out = replicate (image_length 3 5 0 false) 0

-- opened as module 2
abbrev pub five_opened : PageCalled
five_opened = page_open_call five_setup 2 five_out lent

-- a setup with u = 1: module 1 has l = 4, the others l = 0, so that all that module 1 votes on is of the read before
abbrev pub late_setup : List ℕ
late_setup = words 7 (0x1000_0004 ∷ 0x2000_0001 ∷ 0x3000_0003 ∷ 0x4088_0001 ∷ 0x4100_0001 ∷ 0x4180_0001 ∷ 0x4200_0001 ∷ [])

-- opened as module 1
abbrev pub late_opened : PageCalled
late_opened = page_open_call late_setup 1 out lent

-- module 2 is lost in the read of the first step
abbrev pub late_loss : PageCalled
late_loss = page_step_call late_opened.call.out (rows 15) 13 out late_opened.page

-- the lines
abbrev pub cause_cases : List Case
cause_cases =
    case (answered mixed.call.answer) (0 ∷ 0 ∷ 15 ∷ []) ∷ case mixed.page (page_with 15 15 0 0 0x0001_0203 0 0 0)
    -- the image keeps no causes
    ∷ case lost.page (page_with 15 15 0 0 0x0001_0101 0 0 0) ∷ case lost.call.out mixed.call.out
    -- the next step writes all four words; words 8 to 15 stay
    ∷ case (step mixed 15 (page_with 15 15 0 7 0xFFFF_FFFF 0xFFFF_FFFF 0xFFFF_FFFF 0xFFFF_FFFF)).page (page 15 15 0 7)
    ∷ case (page_step_call opened.call.out (rows 15) 14 out lent).page
    (words 4 (15 ∷ 15 ∷ 0xA5A5_A5A5 ∷ 0xA5A5_A5A5 ∷ []) ++ (words 4 (0x0100_0000 ∷ []) ++ replicate 32 0xA5))
    -- an opening writes none, whatever was lent; a refused step leaves them
    ∷ case opened.page (page 15 15 0 0)
    ∷ case (page_step_call opened.call.out (rows 15) 16 out mixed.page).page mixed.page
    -- module 5 is the first of word 5; there is none above it
    ∷ case
    (page_step_call five_opened.call.out (words 5 (0x4000_0000 ∷ 0x5000_0020 ∷ 0x5000_001F ∷ 0x5000_001F ∷ 0x5000_0020 ∷ [])) 27 five_out five_opened.page).page
    (page_with 31 31 0 0 0x0203_0100 0x0300_0000 0 0)
    -- the last read as it came, and not the aligned one, nor the read before
    ∷ case late_loss.page (page_with 15 15 0 0 0x0001_0000 0 0 0) ∷ case (step late_loss 15 late_loss.page).page (page 15 15 0 0)
    -- sixteen modules, four words
    ∷ case (put_causes (1 ∷ 2 ∷ 3 ∷ 0 ∷ 0 ∷ 1 ∷ 2 ∷ 3 ∷ 3 ∷ 0 ∷ 1 ∷ 2 ∷ 2 ∷ 3 ∷ 0 ∷ 1 ∷ []) (page 15 15 1 2))
    (page_with 15 15 1 2 0x0102_0300 0x0001_0203 0x0300_0102 0x0203_0001)
    -- the host reads them, and may not write them
    ∷ case (told (read_call mixed.page 16)) (0 ∷ 0 ∷ 0x0001_0203 ∷ []) ∷ writes (write_call mixed.page 28 1) 18 0 mixed.page

-- ---- one word: cause and row; 2 for N outside 2..16, then 10 for a controller bit other than 0 and 1, both with index 0, cause 0 and row 0
abbrev pub one_word_cases : List Case
one_word_cases =
    case (read (cause_call 4 1 0x5000_000A)) (0 ∷ 0 ∷ 0 ∷ 10 ∷ []) ∷ case (read (cause_call 4 0 0x5000_000A)) (0 ∷ 0 ∷ 1 ∷ 0 ∷ [])
    ∷ case (read (cause_call 4 1 0x4000_001A)) (0 ∷ 0 ∷ 2 ∷ 0 ∷ []) ∷ case (read (cause_call 4 1 0x5000_001A)) (0 ∷ 0 ∷ 3 ∷ 0 ∷ [])
    ∷ case (read (cause_call 4 0 0x4000_001A)) (0 ∷ 0 ∷ 1 ∷ 0 ∷ []) ∷ case (read (cause_call 16 1 0x5000_FFFF)) (0 ∷ 0 ∷ 0 ∷ 0xFFFF ∷ [])
    ∷ case (read (cause_call 2 1 0x5000_0003)) (0 ∷ 0 ∷ 0 ∷ 3 ∷ []) ∷ case (read (cause_call 1 1 0x5000_0001)) (2 ∷ 0 ∷ 0 ∷ 0 ∷ [])
    ∷ case (read (cause_call 17 2 0x5000_0001)) (2 ∷ 0 ∷ 0 ∷ 0 ∷ []) ∷ case (read (cause_call 0 1 0x5000_0001)) (2 ∷ 0 ∷ 0 ∷ 0 ∷ [])
    ∷ case (read (cause_call 4 2 0x5000_0001)) (10 ∷ 0 ∷ 0 ∷ 0 ∷ []) ∷ case (read (cause_call 4 0xFFFF_FFFF 0)) (10 ∷ 0 ∷ 0 ∷ 0 ∷ []) ∷ []

-- ---- a change that is due takes effect before the counting: charged are modules in the view that rule 8 then finds
-- P = 2 and a head with this Q: module 2 is charged twice and stays in the view; then a change to P = 1 by the setup with the same head, so many rounds
-- ahead.
abbrev pub setup_with : ℕ → ℕ → List ℕ
setup_with head p = words 7 (head ∷ p ∷ 0x3000_0003 ∷ 0x4088_0001 ∷ 0x4108_0001 ∷ 0x4188_0001 ∷ 0x4208_0001 ∷ [])

abbrev pub wide_opened : ℕ → PageCalled
wide_opened head = page_open_call (setup_with head 0x2000_0002) 1 out lent

abbrev pub twice : ℕ → PageCalled
twice head = step (step (wide_opened head) 13 (page 15 15 0 0)) 13 (page 13 15 0 0)

-- an output for an image with a pending change, 33 words
abbrev pub long_out : List ℕ
long_out = replicate (image_length 3 4 1 false) 0

abbrev pub changed : ℕ → ℕ → List ℕ
changed head lead = (change_call (twice head).call.out (setup_with head 0x2000_0001) lead long_out).out

-- Q = 0. Module 2 leaves by the change: with health 0 it raises no flag 1, and the view has changed; module 3, in the view after the change, does with
-- health 0. One round before, module 2 is charged by the old limits.
abbrev pub change_cases : List Case
change_cases =
    accepts (twice 0x1000_0004) 13 (page 13 15 2 0)
    ++ (accepts (page_step_call (changed 0x1000_0004 1) (rows 13) 15 out (page 13 15 0 0)) 13 (page 13 13 1 0)
    ++ (accepts (page_step_call (changed 0x1000_0004 1) (rows 15) 15 out (page 13 15 0 0)) 15 (page 15 13 1 0)
    ++ (accepts (page_step_call (changed 0x1000_0004 1) (rows 9) 15 out (page 13 15 0 0)) 9 (page 9 13 3 0)
    ++ (accepts (page_step_call (changed 0x1000_0004 2) (rows 13) 15 long_out (page 13 15 0 0)) 13 (page 13 13 3 0)
    -- with Q = 1 one that leaves by the change and has health 1 is back at once: no flag
    ++ (accepts (page_step_call (changed 0x1000_0104 1) (rows 15) 15 out (page 13 15 0 0)) 15 (page 15 15 0 0)
    -- the output has the length of the image after the step
    ++ (refuses (page_step_call (changed 0x1000_0004 1) (rows 13) 15 long_out (page 13 15 0 0)) 9 (page 13 15 0 0)
    ++ refuses (page_step_call (changed 0x1000_0004 2) (rows 13) 15 out (page 13 15 0 0)) 9 (page 13 15 0 0)))))))

-- ---- a partitionable setup: word 1 and flag 0 go by the adopted view, flag 1 by the local one (document 02, E11)

-- the same module with head bit 5
abbrev pub parted : PageCalled
parted = page_open_call (setup_with 0x1000_0024 0x2000_0001) 1 parted_out lent

-- a step in which all four are heard with this row, and with this view word
abbrev pub seeing : PageCalled → ℕ → ℕ → List ℕ → PageCalled
seeing c row view p = page_step_call c.call.out (rows row ++ bytes_of 4 (λ j. view_word view)) 15 parted_out p

abbrev pub shown_cases : List Case
shown_cases =
    accepts parted 0 (page 15 15 0 0)
    -- the others' view without module 4 is adopted: shown, with flag 0, while the local view stays full and nobody is charged
    ++ (accepts (seeing parted 15 7 (page 15 15 0 0)) 15 (page 15 7 1 0)
    -- a charge by the local view, of module 4 that the adopted view does not have: flag 1, and no flag 0
    ++ (accepts (seeing (seeing parted 15 7 (page 15 15 0 0)) 7 7 (page 15 7 0 0)) 7 (page 7 7 2 0)
    -- module 2 leaves the local view, and is shown as long as the adopted view has it
    ++ (accepts (seeing (seeing parted 13 15 (page 15 15 0 0)) 13 15 (page 13 15 0 0)) 13 (page 13 15 2 0)
    -- the causes go by the syndromes alone: a read whose view words are all of another kind has none, and the module is out
    ++ accepts (page_step_call parted.call.out (rows 15 ++ rows 15) 15 parted_out (page 15 15 0 0)) 15 (page 15 15 0 0))))

-- the whole table
abbrev pub cases : List Case
cases =
    open_cases ++ (step_cases ++ (write_cases ++ (interrupt_cases ++ (check_cases ++ (cause_cases ++ (one_word_cases ++ (change_cases ++ shown_cases)))))))

-- what is claimed: every line is right
abbrev pub CasesRight : Type 0
CasesRight = right cases ≡ true
