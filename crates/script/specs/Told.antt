-- Only the cast lies: in an accepted run script told words, the told view word among them, stand only for senders of the cast, in every round.
-- Proved in proofs/CastLaws.antt.
use Rattle.std.specs.Prelude.{ℕ, ◌%◌, ◌<◌, ◌≡◌, true, List, get_or}
use Rattle.words.specs.Word.{word_at}
use Rattle.words.specs.Bits.{bit}
use Rattle.script.specs.Words.{cast_at, cast_in}
use Rattle.script.specs.Check.{check_script}
use Rattle.script.specs.Cursor.{cursor_at}
use Rattle.script.specs.declared.Events.{Events}

-- the events e tell words only for senders of the cast
abbrev pub ToldBy : ℕ → Events → Type 0
ToldBy cast e = (x : ℕ) → x < 256 → get_or e.fate x 0 ≡ 8 → bit cast (x % 16) ≡ true

-- the cast of a script
abbrev pub cast_of : List ℕ → ℕ
cast_of s = cast_in (word_at s (cast_at s))

-- of every round of an accepted script
abbrev pub OnlyCast : Type 0
OnlyCast = (s : List ℕ) → (check_script s).number ≡ 0 → (k : ℕ) → ToldBy (cast_of s) (cursor_at s k).events
