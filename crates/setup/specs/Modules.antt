-- A helper of the contracts of the functions of src/modules.rt, which this project's crates alone call: no contract of a function that outsiders
-- call rests on it.
-- A module word by its distance from the lowest word of its kind and number.
use Rattle.std.specs.Prelude.{ℕ, ◌+◌, ◌/◌, ◌^◌, Bool, ◌&&◌, ◌||◌, nat_le, nat_lt}
use Rattle.words.specs.Word.{gap_of}
use Rattle.words.specs.Verdict.{between}
use Rattle.setup.specs.Limits.{most_criticality}
use Rattle.setup.specs.Setup.{place_unit}
use Rattle.setup.specs.Check.{module_ok, mark_ok}

-- ---- what is asked of the words

-- the word of module j + 1 is right, by numbers 5 and 6
abbrev pub module_right : ℕ → ℕ → ℕ → Bool
module_right n j w = module_ok n j w && mark_ok j w

-- ---- the same of a module word, by that distance

-- send mark and read place of module j + 1 as one number, the mark as 32 more; 64 or more for a word of another kind or number
unfoldable pub marked_place : ℕ → ℕ → ℕ
marked_place j w = gap_of 4 j w / place_unit

-- no send mark and a read place 0..N, or a mark on a module other than 1 whose read place is below its number j + 1
unfoldable pub place_mark_fits : ℕ → ℕ → ℕ → Bool
place_mark_fits n j place = nat_le place n || (nat_lt 0 j && between (2 ^ 5) (2 ^ 5 + j) place)

-- a criticality 1..100,000, and such a read place
unfoldable pub fields_fit : ℕ → ℕ → ℕ → ℕ → Bool
fields_fit n j place criticality = between 1 most_criticality criticality && place_mark_fits n j place
