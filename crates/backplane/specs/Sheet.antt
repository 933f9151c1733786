-- Document 01's bench sheet: what the bench writes for its ten words, byte by byte; then a script that is refused, one over the fault limit, and one with
-- a torn cable. (document 01, "Bench sheet"; document 02, E11) Computed in proofs/Sheet.antt.
use Rattle.std.specs.Prelude.{ℕ, ◌≡◌, List, [], ◌∷◌, ◌++◌, get_or, length, set}
use Prim.Native.Char.{code}
use Prim.Native.String.{String, [] as []ˢ, ◌∷◌ as ◌∷ˢ◌}
use Rattle.words.specs.Word.{bytes_of}
use Rattle.backplane.specs.Output.{output_of}

-- ---- scripts and lines

-- the bytes of a script of these words
abbrev pub script_of : List ℕ → List ℕ
script_of words = bytes_of (length words) (λ i. get_or words i 0)

-- the codes of a text's characters
abbrev pub codes_of : String → List ℕ
codes_of []ˢ = []
codes_of (c ∷ˢ text) = code c ∷ codes_of text

-- the bytes of these lines, each with the line feed that ends it
abbrev pub text_of : List String → List ℕ
text_of [] = []
text_of (line ∷ lines) = codes_of line ++ (10 ∷ text_of lines)

-- ---- the sheet

-- its ten words
abbrev pub sheet_words : List ℕ
sheet_words =
    0x1000_0004 ∷ 0x2000_0001 ∷ 0x3000_0003 ∷ 0x4088_0001 ∷ 0x4108_0001 ∷ 0x4188_0001 ∷ 0x4208_0001
    ∷ 0x6000_0000 ∷ 0x7100_000F ∷ 0x9000_0002 ∷ []

-- its eight lines
abbrev pub sheet_lines : List String
sheet_lines =
    "1 1 1111 1111 in"
    ∷ "1 2 1111 1111 in"
    ∷ "1 3 1111 1111 in"
    ∷ "1 4 1111 1111 in"
    ∷ "2 1 1011 1111 in"
    ∷ "2 2 1011 1111 in"
    ∷ "2 3 1011 1111 in"
    ∷ "2 4 1011 1111 in"
    ∷ []

-- ---- a script over the fault limit

-- the sheet's limits with three modules, of which module 2 alone misses module 1 in round 1
abbrev pub half_heard_words : List ℕ
half_heard_words =
    0x1000_0003 ∷ 0x2000_0001 ∷ 0x3000_0003 ∷ 0x4086_0001 ∷ 0x4106_0001 ∷ 0x4186_0001
    ∷ 0x6000_0000 ∷ 0x7080_0002 ∷ 0x9000_0001 ∷ []

-- ---- a torn cable (document 02, E11)

-- one round in which cards 1 and 2 on one part of the cable, and 3, 4 and 5 on the other, hear nothing of each other
abbrev pub torn_round : List ℕ
torn_round = 0x7080_001C ∷ 0x7100_001C ∷ 0x7180_0003 ∷ 0x7200_0003 ∷ 0x7280_0003 ∷ 0x9000_0001 ∷ []

-- a partitionable setup of five cards: one round with the cable whole, six with it torn, four with it whole again
abbrev pub torn_words : List ℕ
torn_words =
    (0x1000_0025 ∷ 0x2000_0001 ∷ 0x3000_0003 ∷ 0x408A_0001 ∷ 0x410A_0001 ∷ 0x418A_0001 ∷ 0x420A_0001 ∷ 0x428A_0001 ∷ 0x6000_0000 ∷ 0x9000_0001 ∷ [])
    ++ (torn_round ++ (torn_round ++ (torn_round ++ (torn_round ++ (torn_round ++ (torn_round ++ (0x9000_0004 ∷ [])))))))

-- Its lines, round by round; the last word of each is the limit's. Cards 1 and 2 take themselves out in round 2, since two of five are not more than half,
-- and show the full view for good. In round 5 cards 3, 4 and 5 adopt the local view that they sent, of themselves alone.
abbrev pub torn_lines : List String
torn_lines =
    "1 1 11111 11111 in" ∷ "1 2 11111 11111 in" ∷ "1 3 11111 11111 in" ∷ "1 4 11111 11111 in" ∷ "1 5 11111 11111 in"
    ∷ "2 1 11111 11111 out" ∷ "2 2 11111 11111 out" ∷ "2 3 11111 11111 out" ∷ "2 4 11111 11111 out" ∷ "2 5 11111 11111 out"
    ∷ "3 1 11000 11111 out" ∷ "3 2 11000 11111 out" ∷ "3 3 00111 11111 out" ∷ "3 4 00111 11111 out" ∷ "3 5 00111 11111 out"
    ∷ "4 1 11000 11111 out" ∷ "4 2 11000 11111 out" ∷ "4 3 00111 11111 out" ∷ "4 4 00111 11111 out" ∷ "4 5 00111 11111 out"
    ∷ "5 1 11000 11111 out" ∷ "5 2 11000 11111 out" ∷ "5 3 00111 00111 out" ∷ "5 4 00111 00111 out" ∷ "5 5 00111 00111 out"
    ∷ "6 1 11000 11111 out" ∷ "6 2 11000 11111 out" ∷ "6 3 00111 00111 out" ∷ "6 4 00111 00111 out" ∷ "6 5 00111 00111 out"
    ∷ "7 1 11000 11111 out" ∷ "7 2 11000 11111 out" ∷ "7 3 00111 00111 out" ∷ "7 4 00111 00111 out" ∷ "7 5 00111 00111 out"
    ∷ "8 1 11000 11111 out" ∷ "8 2 11000 11111 out" ∷ "8 3 00111 00111 out" ∷ "8 4 00111 00111 out" ∷ "8 5 00111 00111 out"
    ∷ "9 1 11111 11111 out" ∷ "9 2 11111 11111 out" ∷ "9 3 11111 00111 out" ∷ "9 4 11111 00111 out" ∷ "9 5 11111 00111 out"
    ∷ "10 1 11111 11111 out" ∷ "10 2 11111 11111 out" ∷ "10 3 11111 00111 out" ∷ "10 4 11111 00111 out" ∷ "10 5 11111 00111 out"
    ∷ "11 1 11111 11111 out" ∷ "11 2 11111 11111 out" ∷ "11 3 11111 00111 out" ∷ "11 4 11111 00111 out" ∷ "11 5 11111 00111 out"
    ∷ []

-- what the bench writes for each, and it writes nothing else
pub record SheetWritten : Type 0 where
  -- for the sheet's words the sheet's lines
  pub sheet : output_of (script_of sheet_words) ≡ text_of sheet_lines
  -- for the same words with a play of 0 rounds the number and the index of the wrong word
  pub refused : output_of (script_of (set sheet_words 9 0x9000_0000)) ≡ text_of ("refused 12 at 9" ∷ [])
  -- with three modules and one sender half heard: `out`
  pub half-heard : output_of (script_of half_heard_words) ≡ text_of ("1 1 111 111 out" ∷ "1 2 111 111 out" ∷ "1 3 111 111 out" ∷ [])
  -- with a torn cable: adopted views, and the larger part alone goes on
  pub torn : output_of (script_of torn_words) ≡ text_of torn_lines
