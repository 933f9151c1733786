-- The words of a run script after its setup: one 6, then 7, 8, 9. (document 01, "What runs")
use Rattle.std.specs.Prelude.{ℕ, ◌+◌, ◌-◌, ◌/◌, ◌%◌, ◌^◌, Bool, cond, ◌&&◌, List, eqb, ltb, length}
use Rattle.words.specs.Word.{word_at, field, kind_unit, number_unit}
use Rattle.words.specs.Verdict.{between}
use Rattle.setup.specs.Layout.{setup_words}
use Rattle.setup.specs.Setup.{size_in, partitionable_in, front_in}
use Rattle.script.specs.declared.Kind.{Kind}
use Rattle.script.specs.declared.Kind.TheVariants.{Cast, Loss, Lie, Play}

-- where the cast of the script s stands, after its setup
abbrev pub cast_at : List ℕ → ℕ
cast_at s = setup_words (front_in (word_at s)) (size_in (word_at s 0))

-- the first word after the cast
abbrev pub events_at : List ℕ → ℕ
events_at s = cast_at s + 1

-- whether the setup of the script s is partitionable (document 02, E11)
abbrev pub is_partitionable : List ℕ → Bool
is_partitionable s = partitionable_in (word_at s 0)

-- how many bytes a script has at most
abbrev pub most_bytes : ℕ
most_bytes = 65536

-- how many rounds one play has at most, and all plays together
abbrev pub most_of_play : ℕ
most_of_play = 1000

abbrev pub most_rounds : ℕ
most_rounds = 100000

-- the kind: the top four bits
abbrev pub kind_of : ℕ → ℕ
kind_of w = w / kind_unit

-- the number of a kind as code has it
abbrev pub kind_number : Kind → ℕ
kind_number Cast = 6
kind_number Loss = 7
kind_number Lie = 8
kind_number Play = 9

-- kind 6: bits 15..0 the rule-breakers, may be 0; here with the spare bits 27..16, which the check refuses
abbrev pub cast_in : ℕ → ℕ
cast_in w = w % kind_unit

-- kind 6, no bit at N or above, else number 12
unfoldable pub cast_ok : ℕ → ℕ → Bool
cast_ok n w = eqb (kind_of w) 6 && ltb (cast_in w) (2 ^ n)

-- kinds 7, a loss, and 8, a lie: bits 27..23 the sender's number
abbrev pub sender_in : ℕ → ℕ
sender_in w = field 23 5 w

-- bits 15..0 the receivers, never empty; here with the spare bits 22..16, which the check refuses
abbrev pub receivers_in : ℕ → ℕ
receivers_in w = w % number_unit

-- a sender 1..N, receivers that are not empty and have no bit at N or above, else number 12
unfoldable pub event_ok : ℕ → ℕ → Bool
event_ok n w = between 1 n (sender_in w) && ltb 0 (receivers_in w) && ltb (receivers_in w) (2 ^ n)

-- kind 9: how many rounds are played
abbrev pub rounds_in : ℕ → ℕ
rounds_in w = w % kind_unit

-- kind 9, 1..1,000 rounds, else number 12
unfoldable pub play_ok : ℕ → Bool
play_ok w = eqb (kind_of w) 9 && between 1 most_of_play (rounds_in w)

-- ---- told words: "the next word, taken as it is, reaches those receivers as heard" (document 01, kind 8); "a told word is followed by a told view
-- word" where the setup is partitionable (document 02, E11)

-- how many told words follow a lie: the told word, and where the setup is partitionable the told view word
abbrev pub told_words : Bool → ℕ
told_words partitionable = cond partitionable 2 1

-- how many told words are due after the word w, where `due` of them were due before it: one less, since a due word is taken as it is, whatever it
-- looks like; else those of a lie
unfoldable pub due_after : Bool → ℕ → ℕ → ℕ
due_after partitionable due w = cond (eqb due 0) (cond (eqb (kind_of w) 8) (told_words partitionable) 0) (due - 1)

-- the word w, before which `due` told words were due, is a play, and no told word
unfoldable pub is_play : ℕ → ℕ → Bool
is_play due w = eqb due 0 && eqb (kind_of w) 9

-- word i of the script s, and 0 behind its last one
abbrev pub word_within : List ℕ → ℕ → ℕ
word_within s i = cond (ltb i (length s / 4)) (word_at s i) 0
