-- Rule 2: which modules are heard in a read, and with which rows; and why one is not heard. (document 02, E5)
use Rattle.std.specs.Prelude.{ℕ, ◌+◌, ◌*◌, ◌/◌, ◌%◌, ◌^◌, Bool, true, false, cond, List, Result, Ok, Err, eqb, ltb}
use Rattle.words.specs.Word.{word_at, kind_unit}
use Rattle.words.specs.Bits.{bit, pack}
use Rattle.words.specs.Array.{array}
use Rattle.rules.specs.declared.Cause.{Cause}
use Rattle.rules.specs.declared.Cause.TheVariants.{ControllerLoss, WrongKind, StrayBits}
use Rattle.rules.specs.declared.Reading.{Reading}

-- a bus word, kind 5: bits 15..0 a syndrome
unfoldable pub bus_word : ℕ → ℕ
bus_word syndrome = 5 * kind_unit + syndrome

-- what reading a bus word answers: it is heard, with its row, or it is not, and why
abbrev pub Reception : Type 0
Reception = Result ℕ Cause

-- What reading a bus word w answers, where its controller bit is `on`: the first that applies of controller loss, wrong kind, which is another
-- than 5, and stray bits, which are bits at N or above; else heard, with its row. Nothing else decides what is heard.
unfoldable pub reception_of : ℕ → Bool → ℕ → Reception
reception_of n on w =
    cond on
    (cond (eqb (w / kind_unit) 5)
    (cond (ltb (w % kind_unit) (2 ^ n)) (Ok (w % kind_unit)) (Err StrayBits))
    (Err WrongKind))
    (Err ControllerLoss)

-- it is heard
unfoldable pub is_heard : Reception → Bool
is_heard (Ok row) = true
is_heard (Err cause) = false

-- its row, 0 where it is not heard
unfoldable pub heard_row : Reception → ℕ
heard_row (Ok row) = row
heard_row (Err cause) = 0

-- the code of a cause
abbrev pub cause_code : Cause → ℕ
cause_code ControllerLoss = 1
cause_code WrongKind = 2
cause_code StrayBits = 3

-- the code of the cause for which it is not heard, 0 where it is heard
unfoldable pub cause_in : Reception → ℕ
cause_in (Ok row) = 0
cause_in (Err cause) = cause_code cause

-- a word is heard where its controller bit is 1
abbrev pub word_heard : ℕ → ℕ → Bool
word_heard n w = is_heard (reception_of n true w)

-- what became of one module's bus word: whether it is heard, and its row, 0 where it is missing
pub record Entry : Type 0 where
  pub heard : Bool
  pub row : ℕ

-- one module, whose controller bit is `on` and whose word is w: whether it is heard, and its row, 0 where it is missing
unfoldable pub entry_of : ℕ → Bool → ℕ → Entry
entry_of n on w =
    let r = reception_of n on w in
    record { heard = is_heard r; row = heard_row r }

-- all modules of a read: word j and bit j of `controller` are those of module j + 1
unfoldable pub reading_of : ℕ → List ℕ → ℕ → Reading
reading_of n read controller = record {
  heard = pack n (λ j. (entry_of n (bit controller j) (word_at read j)).heard);
  rows = array n (λ j. (entry_of n (bit controller j) (word_at read j)).row);
}

-- the codes of the causes of the same read: that of module j + 1 stands at j, and 0 from n on
unfoldable pub causes_of : ℕ → List ℕ → ℕ → List ℕ
causes_of n read controller = array n (λ j. cause_in (reception_of n (bit controller j) (word_at read j)))
