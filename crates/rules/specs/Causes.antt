-- Why a word is not heard, in other words than `reception_of` has it, and word by word. (document 02, E5) Proved in proofs/Causes.antt.
use Rattle.std.specs.Prelude.{ℕ, ◌/◌, ◌%◌, ◌^◌, ◌≤◌, ◌<◌, ◌≡◌, ◌≢◌, ◌↔◌, Bool, true, false, ◌&&◌, List, [], ◌∷◌, get_or, eqb}
use Rattle.words.specs.Word.{word_at, bytes_of, kind_unit}
use Rattle.words.specs.Bits.{bit}
use Rattle.rules.specs.Hearing.{reception_of, heard_row, cause_in, reading_of, causes_of}

-- the cause of a word w of n modules, whose controller bit is `on`
abbrev pub cause_of : ℕ → Bool → ℕ → ℕ
cause_of n on w = cause_in (reception_of n on w)

-- of every word, for any number of modules that a bus word has room for
pub record Causes : Type 0 where
  -- 1, controller loss, exactly if the controller bit is 0, whatever the word
  pub loss : (n : ℕ) (on : Bool) (w : ℕ) → (cause_of n on w ≡ 1) ↔ (on ≡ false)
  -- 2, wrong kind, exactly if the controller bit is 1 and the top four bits are not 5, whatever the others
  pub kind : (n : ℕ) (on : Bool) (w : ℕ) → (cause_of n on w ≡ 2) ↔ ((on ≡ true) × (w / kind_unit ≢ 5))
  -- 3, stray bits, exactly if the controller bit is 1, the top four bits are 5, and one of bits 27..N is set
  pub stray : (n : ℕ) (on : Bool) (w : ℕ)
      → (cause_of n on w ≡ 3) ↔ ((on ≡ true) × (w / kind_unit ≡ 5) × ((b : ℕ) × (n ≤ b) × (b < 28) × (bit w b ≡ true)))
  -- 0, heard, exactly if the controller bit is 1, the top four bits are 5, and none of bits 27..N is set
  pub heard : (n : ℕ) (on : Bool) (w : ℕ)
      → (cause_of n on w ≡ 0) ↔ ((on ≡ true) × (w / kind_unit ≡ 5) × ((b : ℕ) → n ≤ b → b < 28 → bit w b ≡ false))
  -- there is no other code
  pub codes : (n : ℕ) (on : Bool) (w : ℕ) → cause_of n on w ≤ 3
  -- a heard word's row is its low N bits; of any other there is none
  pub row : (n : ℕ) (on : Bool) (w : ℕ) → n ≤ 28 → cause_of n on w ≡ 0 → heard_row (reception_of n on w) ≡ w % 2 ^ n
  pub no_row : (n : ℕ) (on : Bool) (w : ℕ) → cause_of n on w ≢ 0 → heard_row (reception_of n on w) ≡ 0
  -- of a read, the cause of a module is that of its word and its controller bit, and 0 exactly if rule 2 hears it
  pub of-read : (n : ℕ) (read : List ℕ) (controller j : ℕ) → j < n → n ≤ 16
      → get_or (causes_of n read controller) j 0 ≡ cause_of n (bit controller j) (word_at read j)
  pub hears : (n : ℕ) (read : List ℕ) (controller j : ℕ) → j < n → n ≤ 16
      → (get_or (causes_of n read controller) j 0 ≡ 0) ↔ (bit (reading_of n read controller).heard j ≡ true)
  -- a module above N has the code 0
  pub above : (n : ℕ) (read : List ℕ) (controller j : ℕ) → n ≤ j → j < 16 → get_or (causes_of n read controller) j 0 ≡ 0

-- ---- computed, N, controller bit and word at a time

-- code and row
pub record Case : Type 0 where
  pub n : ℕ
  pub on : Bool
  pub word : ℕ
  pub cause : ℕ
  pub row : ℕ

-- such a line
abbrev pub case : ℕ → Bool → ℕ → ℕ → ℕ → Case
case n on word cause row = record { n = n; on = on; word = word; cause = cause; row = row }

-- in every line code and row are what reading the word answers
abbrev pub right : List Case → Bool
right [] = true
right (c ∷ cs) =
    eqb (cause_of c.n c.on c.word) c.cause && (eqb (heard_row (reception_of c.n c.on c.word)) c.row && right cs)

-- heard, with the row
abbrev pub cases : List Case
cases =
    case 4 true 0x5000_000F 0 15 ∷ case 4 true 0x5000_0000 0 0 ∷ case 16 true 0x5000_FFFF 0 0xFFFF ∷ case 2 true 0x5000_0003 0 3
    -- controller loss, before wrong kind and stray bits
    ∷ case 4 false 0x5000_000F 1 0 ∷ case 4 false 0x4000_000F 1 0 ∷ case 4 false 0x5000_001F 1 0 ∷ case 4 false 0x4000_001F 1 0
    -- wrong kind, before stray bits: all four bits count
    ∷ case 4 true 0x4000_000F 2 0 ∷ case 4 true 0xD000_000F 2 0 ∷ case 4 true 0x4000_001F 2 0 ∷ case 4 true 0 2 0 ∷ case 4 true 0xFFFF_FFFF 2 0
    -- stray bits, from N up to bit 27
    ∷ case 4 true 0x5000_001F 3 0 ∷ case 4 true 0x5800_0000 3 0 ∷ case 2 true 0x5000_0004 3 0 ∷ case 16 true 0x5001_FFFF 3 0
    ∷ case 15 true 0x5000_8000 3 0 ∷ []

-- a read of four modules: heard, lost and of another kind, of another kind with stray bits, with stray bits
abbrev pub four_causes : List ℕ
four_causes = causes_of 4 (bytes_of 4 (λ j. get_or (0x5000_000F ∷ 0x4000_000F ∷ 0x4000_001F ∷ 0x5000_001F ∷ []) j 0)) 13

-- what is claimed: every line is right, and the read's codes stand in the modules' order with 0 above
abbrev pub CasesRight : Type 0
CasesRight =
    (right cases ≡ true)
    × (four_causes ≡ 0 ∷ 1 ∷ 2 ∷ 3 ∷ 0 ∷ 0 ∷ 0 ∷ 0 ∷ 0 ∷ 0 ∷ 0 ∷ 0 ∷ 0 ∷ 0 ∷ 0 ∷ 0 ∷ [])
