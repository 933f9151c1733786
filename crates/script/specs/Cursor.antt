-- How a run script is played: which events count for which round. (document 01, "What runs")
use Rattle.std.specs.Prelude.{ℕ, zero, suc, ◌+◌, ◌-◌, ◌/◌, true, false, cond, List, eqb, length}
use Rattle.words.specs.Word.{word_at}
use Rattle.script.specs.Words.{events_at, is_partitionable, kind_of, rounds_in, due_after, is_play, word_within}
use Rattle.script.specs.Events.{none, with_event}
use Rattle.script.specs.declared.Events.{Events}
use Rattle.script.specs.declared.Cursor.{Cursor}

-- ---- the words up to the next play, of which the first `due` are told words

-- the told view word of the lie at `at`: the second word after it where the setup is partitionable, else 0
unfoldable pub told_view_of : List ℕ → ℕ → ℕ
told_view_of s at = cond (is_partitionable s) (word_within s (at + 2)) 0

-- the events after the word at `at`: a loss is one by itself, a lie one with the told words that follow it; a told word is none
unfoldable pub events_after : List ℕ → ℕ → ℕ → Events → Events
events_after s due at e =
    let w = word_at s at in
    cond (eqb due 0)
    (cond (eqb (kind_of w) 7) (with_event e w 0 0) (cond (eqb (kind_of w) 8) (with_event e w (word_within s (at + 1)) (told_view_of s at)) e))
    e

-- The words that are left, from `at` on: the events before the next play count for its first round. Without a play the script is over.
unfoldable pub gather : List ℕ → ℕ → ℕ → ℕ → Events → Cursor
gather s zero at due e = record { at = at; left = 0; over = true; events = none }
gather s (suc words) at due e =
    let w = word_at s at in
    cond (is_play due w) (record { at = at + 1; left = rounds_in w - 1; over = false; events = e })
    (gather s words (at + 1) (due_after (is_partitionable s) due w) (events_after s due at e))

-- ---- from round to round

-- before round 1: the words after the cast come next
unfoldable pub start : List ℕ → Cursor
start s = record { at = events_at s; left = 0; over = false; events = none }

-- The next round: another one of this play, without events, or the first one of the next play.
unfoldable pub advanced : List ℕ → Cursor → Cursor
advanced s c =
    cond (eqb c.left 0) (gather s (length s / 4 - c.at) c.at 0 none)
    (record { at = c.at; left = c.left - 1; over = false; events = none })

-- the place of round k; k = 0 is before round 1
unfoldable pub cursor_at : List ℕ → ℕ → Cursor
cursor_at s zero = start s
cursor_at s (suc k) = advanced s (cursor_at s k)
