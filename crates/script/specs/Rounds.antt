-- An accepted run script plays as many rounds as its plays count together, and then it is over.
-- Proved in proofs/CastLaws.antt.
use Rattle.std.specs.Prelude.{ℕ, zero, suc, ◌+◌, ◌-◌, ◌/◌, ◌≤◌, ◌<◌, ◌≡◌, true, false, List, length}
use Rattle.words.specs.Word.{word_at}
use Rattle.script.specs.Words.{events_at, is_partitionable, most_rounds}
use Rattle.script.specs.Check.{scanned, unscanned, check_script}
use Rattle.script.specs.Cursor.{cursor_at}
use Rattle.script.specs.declared.Scan.{Scan}

-- what is known after the words that are left, from `at` on
unfoldable pub last_scan : List ℕ → ℕ → ℕ → Scan → Scan
last_scan s zero at sc = sc
last_scan s (suc left) at sc = last_scan s left (at + 1) (scanned (is_partitionable s) sc (word_at s at))

-- the rounds of all plays
unfoldable pub rounds_of : List ℕ → ℕ
rounds_of s =
    let from = events_at s in
    (last_scan s (length s / 4 - from) from unscanned).rounds

-- from 1 to 100,000 rounds; the script is not over in any of them, and over after them
pub record Played (s : List ℕ) : Type 0 where
  pub least : 1 ≤ rounds_of s
  pub most : rounds_of s ≤ most_rounds
  pub playing : (k : ℕ) → k ≤ rounds_of s → (cursor_at s k).over ≡ false
  pub over : (k : ℕ) → rounds_of s < k → (cursor_at s k).over ≡ true

-- of every accepted script
abbrev pub PlaysAll : Type 0
PlaysAll = (s : List ℕ) → (check_script s).number ≡ 0 → Played s
