-- The register page: 16 words, 0 health, 1 the view that is shown, 2 flags (bit 0 view changed, bit 1 somebody charged), 3 enable, 4 to 7 the causes of the last
-- read, the rest 0. (document 02, E1, E5 and E11)
use Rattle.std.specs.Prelude.{ℕ, ◌+◌, ◌-◌, ◌*◌, ◌/◌, ◌%◌, ◌^◌, Bool, cond, not, ◌&&◌, List, length, get_or, eqb, ltb}
use Rattle.words.specs.Word.{word_at, put_word, bytes_of}
use Rattle.words.specs.Bits.{bit, b2n, full}
use Rattle.words.specs.Count.{any}
use Rattle.page.specs.Flags.{joined, cleared, shared}

-- a page has 64 bytes
abbrev pub is_page : List ℕ → Bool
is_page page = eqb (length page) 64

-- a byte offset that is the start of one of the 16 words
abbrev pub starts_word : ℕ → Bool
starts_word offset = eqb (offset % 4) 0 && ltb offset 64

-- ---- opened: health all ones, the module's view, no flags, enable 0, no causes

-- word i of such a page, for n modules
unfoldable pub opened_word : ℕ → ℕ → ℕ → ℕ
opened_word n view i = cond (eqb i 0) (full n) (cond (eqb i 1) view 0)

-- the whole page, 16 words
unfoldable pub page_opened : ℕ → ℕ → List ℕ
page_opened n view = bytes_of 16 (opened_word n view)

-- ---- causes: four modules a word, one byte each, the first of them topmost

-- four codes in a word
abbrev pub four_codes : ℕ → ℕ → ℕ → ℕ → ℕ
four_codes a b c d = a * 2 ^ 24 + b * 2 ^ 16 + c * 2 ^ 8 + d

-- word 4 + i, by the codes of all modules
unfoldable pub cause_word : List ℕ → ℕ → ℕ
cause_word causes i =
    four_codes (get_or causes (4 * i) 0) (get_or causes (4 * i + 1) 0) (get_or causes (4 * i + 2) 0) (get_or causes (4 * i + 3) 0)

-- words 4 to 7 are written
unfoldable pub put_causes : List ℕ → List ℕ → List ℕ
put_causes causes page =
    put_word (put_word (put_word (put_word page 4 (cause_word causes 0)) 5 (cause_word causes 1)) 6 (cause_word causes 2)) 7 (cause_word causes 3)

-- the code of module j + 1 on a page: bits 31..24 of its word for the first of four modules, 7..0 for the last
unfoldable pub cause_at : List ℕ → ℕ → ℕ
cause_at page j = word_at page (4 + j / 4) / 2 ^ (24 - 8 * (j % 4)) % 2 ^ 8

-- ---- a step of n modules, by the local view that rule 8 found, the health vector, the view shown after it and the causes of its read

-- a module that rule 8 found in the view had health 0
unfoldable pub somebody_charged : ℕ → ℕ → ℕ → Bool
somebody_charged n view health = any n (λ j. bit view j && not (bit health j))

-- flags stay, bit 0 is set where the view changed, bit 1 where somebody was charged
unfoldable pub raised : ℕ → Bool → Bool → ℕ
raised flags changed charged = joined flags (b2n changed + b2n charged * 2)

-- words 0 to 2 and 4 to 7 after the step, the others as they were; the view has changed where word 1 of the lent page differs from `after`
unfoldable pub page_stepped : ℕ → ℕ → ℕ → ℕ → List ℕ → List ℕ → List ℕ
page_stepped n before health after causes page =
    let changed = not (eqb (word_at page 1) after) in
    put_causes causes (put_word (put_word (put_word page 0 health) 1 after) 2 (raised (word_at page 2) changed (somebody_charged n before health)))

-- ---- the host

-- a write of word 2, at offset 8, clears the flags written as ones; any other offset stands for that of word 3, which is stored whole
unfoldable pub page_written : ℕ → ℕ → List ℕ → List ℕ
page_written offset value page = cond (eqb offset 8) (put_word page 2 (cleared (word_at page 2) value)) (put_word page 3 value)

-- on exactly while flags and enable share a set bit
unfoldable pub interrupt_on : List ℕ → Bool
interrupt_on page = shared (word_at page 2) (word_at page 3)
