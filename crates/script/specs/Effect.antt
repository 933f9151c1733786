-- What the events of a run script do, read off its words without playing it. (document 01, "What runs": "Events count for the next round played;
-- a later one for the same sender and receiver replaces an earlier."; document 02, E11: "On the bench a told word is followed by a told view word.")
-- Proved in proofs/CastLaws.antt, proofs/EventLaws.antt and proofs/EffectLaws.antt.
use Rattle.std.specs.Prelude.{ℕ, zero, suc, ◌+◌, ◌*◌, ◌/◌, ◌≤◌, ◌<◌, ◌≡◌, ◌⊎◌, Bool, true, false, cond, not, ◌&&◌, ◌||◌, List, eqb, leb, get_or, length}
use Rattle.words.specs.Word.{word_at}
use Rattle.words.specs.Bits.{bit}
use Rattle.script.specs.Words.{events_at, is_partitionable, kind_of, sender_in, receivers_in, rounds_in, due_after, is_play}
use Rattle.script.specs.Check.{check_script}
use Rattle.script.specs.Events.{with_event}
use Rattle.script.specs.Cursor.{cursor_at}
use Rattle.script.specs.Rounds.{rounds_of}
use Rattle.script.specs.declared.Events.{Events}

-- ---- what becomes of a word

-- what becomes in round k of the word from sender j + 1 to receiver i + 1, and of its view word: 0 they arrive as sent, 7 they are lost, 8 told words
-- arrive
abbrev pub fate_in : List ℕ → ℕ → ℕ → ℕ → ℕ
fate_in s k i j = get_or (cursor_at s k).events.fate (i * 16 + j) 0

-- the told word that arrives in place of the word
abbrev pub told_in : List ℕ → ℕ → ℕ → ℕ → ℕ
told_in s k i j = get_or (cursor_at s k).events.told (i * 16 + j) 0

-- the told view word that arrives in place of the view word
abbrev pub told_view_in : List ℕ → ℕ → ℕ → ℕ → ℕ
told_view_in s k i j = get_or (cursor_at s k).events.views (i * 16 + j) 0

-- ---- the words of a script, word w counted from 0

-- the first word after the cast
abbrev pub after_cast : List ℕ → ℕ
after_cast s = events_at s

-- how many told words are due at word w: none up to the first word after the cast
unfoldable pub due_at : List ℕ → ℕ → ℕ
due_at s zero = 0
due_at s (suc w) = cond (leb (after_cast s) w) (due_after (is_partitionable s) (due_at s w) (word_at s w)) 0

-- word w is a told word
abbrev pub told_at : List ℕ → ℕ → Bool
told_at s w = not (eqb (due_at s w) 0)

-- word w is a lie after the cast, and no told word
abbrev pub lie_at : List ℕ → ℕ → Bool
lie_at s w = leb (after_cast s) w && (not (told_at s w) && eqb (kind_of (word_at s w)) 8)

-- Which words are told words: the one before it is a lie, or the setup is partitionable and the one before that is a lie.
abbrev pub ToldWords : Type 0
ToldWords = (s : List ℕ) (w : ℕ) → told_at s (w + 2) ≡ lie_at s (w + 1) || (is_partitionable s && lie_at s w)

-- word w is a play after the cast, and no told word
unfoldable pub play_at : List ℕ → ℕ → Bool
play_at s w = leb (after_cast s) w && is_play (due_at s w) (word_at s w)

-- how many rounds are played before word w: those of all plays before it
unfoldable pub rounds_before : List ℕ → ℕ → ℕ
rounds_before s zero = 0
rounds_before s (suc w) = rounds_before s w + cond (play_at s w) (rounds_in (word_at s w)) 0

-- ---- which events count

-- Word w is an event that counts in round k for the word from sender j + 1 to receiver i + 1: a loss or a lie after the cast, no told word, with
-- that sender and that receiver; and round k is the next one played.
pub record Counts (s : List ℕ) (k i j w : ℕ) : Type 0 where
  pub after : after_cast s ≤ w
  pub plain : told_at s w ≡ false
  pub kind : (kind_of (word_at s w) ≡ 7) ⊎ (kind_of (word_at s w) ≡ 8)
  pub sender : sender_in (word_at s w) ≡ j + 1
  pub receiver : bit (receivers_in (word_at s w)) i ≡ true
  pub next : k ≡ rounds_before s w + 1

-- What a lie at word w tells: the told word is the word after it, and where the setup is partitionable the told view word is the one after that.
pub record LieTells (s : List ℕ) (w told view : ℕ) : Type 0 where
  pub word : told ≡ word_at s (w + 1)
  pub view-word : is_partitionable s ≡ true → view ≡ word_at s (w + 2)

-- What the events before word m make of that word and of its view word: their fate is the kind of the last one that counts, and a lie tells what
-- follows it. Where none counts, both arrive as they were sent.
pub record Effect (s : List ℕ) (k i j m fate told view : ℕ) : Type 0 where
  pub last : (w : ℕ) → w < m → Counts s k i j w → ((v : ℕ) → w < v → v < m → Counts s k i j v → ⊥)
      → (fate ≡ kind_of (word_at s w)) × (kind_of (word_at s w) ≡ 8 → LieTells s w told view)
  pub as-sent : ((w : ℕ) → w < m → Counts s k i j w → ⊥) → fate ≡ 0

-- ---- of every accepted script

-- which events decide in which round
pub record Heeded (s : List ℕ) : Type 0 where
  -- all plays together are the script's rounds
  pub rounds : rounds_before s (length s / 4) ≡ rounds_of s
  -- in every round the last event that counts decides, among all words of the script
  pub events : (k : ℕ) → k ≤ rounds_of s → (i j : ℕ) → i < 16 → j < 16
      → Effect s k i j (length s / 4) (fate_in s k i j) (told_in s k i j) (told_view_in s k i j)
  -- in a round of a play that is not its first, every word arrives as it was sent
  pub first-only : (w : ℕ) → w < length s / 4 → play_at s w ≡ true
      → (k : ℕ) → rounds_before s w + 1 < k → k ≤ rounds_before s (w + 1) → (i j : ℕ) → i < 16 → j < 16 → fate_in s k i j ≡ 0

-- events count for the next round played, and the last one wins
abbrev pub EventsCount : Type 0
EventsCount = (s : List ℕ) → (check_script s).number ≡ 0 → Heeded s

-- ---- one more event

-- One more event w, with its told word t and its told view word v, replaces what was there for its sender and its receivers, and leaves what was
-- there for all others.
abbrev pub Replaces : Type 0
Replaces = (e : Events) (w t v i j : ℕ) → i < 16 → j < 16
    → (get_or (with_event e w t v).fate (i * 16 + j) 0
    ≡ cond (eqb (sender_in w) (j + 1) && bit (receivers_in w) i) (kind_of w) (get_or e.fate (i * 16 + j) 0))
    × (get_or (with_event e w t v).told (i * 16 + j) 0
    ≡ cond (eqb (sender_in w) (j + 1) && bit (receivers_in w) i) t (get_or e.told (i * 16 + j) 0))
    × (get_or (with_event e w t v).views (i * 16 + j) 0
    ≡ cond (eqb (sender_in w) (j + 1) && bit (receivers_in w) i) v (get_or e.views (i * 16 + j) 0))
