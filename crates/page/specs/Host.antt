-- The host's calls: the answer, and the page at exit, which a refusal leaves as it was. (document 02, E1, "Checks"; index 0)
use Rattle.std.specs.Prelude.{ℕ, ◌/◌, cond, ◌||◌, List, eqb}
use Rattle.words.specs.Word.{word_at}
use Rattle.words.specs.Bits.{b2n}
use Rattle.page.specs.Page.{is_page, starts_word, page_written, interrupt_on}
use Rattle.calls.specs.declared.WordAnswer.{WordAnswer}

-- an answer with a word; the index is 0
abbrev pub tell : ℕ → ℕ → WordAnswer
tell number word = record { number = number; index = 0; word = word }

-- reading the word at a byte offset: 9, 17
unfoldable pub read_call : List ℕ → ℕ → WordAnswer
read_call page offset =
    cond (is_page page) (cond (starts_word offset) (tell 0 (word_at page (offset / 4))) (tell 17 0)) (tell 9 0)

-- the answer and the page at exit
pub record Written : Type 0 where
  pub answer : WordAnswer
  pub page : List ℕ

-- an answer with the page at exit
abbrev pub written : WordAnswer → List ℕ → Written
written a page = record { answer = a; page = page }

-- an accepted write tells the interrupt after it, 1 for on
unfoldable pub wrote_page : List ℕ → Written
wrote_page page = written (tell 0 (b2n (interrupt_on page))) page

-- writing a word at a byte offset: 9, 17, then 18 for a write outside words 2 and 3
unfoldable pub write_call : List ℕ → ℕ → ℕ → Written
write_call page offset value =
    cond (is_page page)
    (cond (starts_word offset)
    (cond (eqb offset 8 || eqb offset 12) (wrote_page (page_written offset value page)) (written (tell 18 0) page))
    (written (tell 17 0) page))
    (written (tell 9 0) page)

-- whether the interrupt is on, 1 for on: 9
unfoldable pub interrupt_call : List ℕ → WordAnswer
interrupt_call page = cond (is_page page) (tell 0 (b2n (interrupt_on page))) (tell 9 0)
