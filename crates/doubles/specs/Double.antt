-- Doubles (64-bit floats of IEEE 754) in words: two plain words, high half first. And the tests on them. (document 02, E9)
use Rattle.std.specs.Prelude.{ℕ, ◌+◌, ◌*◌, ◌/◌, ◌%◌, ◌^◌, Bool, false, not, pos, Float}
use Rattle.std.specs.Float.{nan, inf, fin, binary64}
use Rattle.std.specs.Float.Ieee.{fits, of_int, of_bits, to_bits}

-- the double of a whole number; exact up to 2 ^ 53
unfoldable pub double : ℕ → Float
double n = of_int binary64 (pos n)

-- the double of two words, the high half first
unfoldable pub of_words : ℕ → ℕ → Float
of_words high low = of_bits binary64 (high * 2 ^ 32 + low)

-- the double in the words i and i + 1 of w
abbrev pub double_in : (ℕ → ℕ) → ℕ → Float
double_in w i = of_words (w i) (w (i + 1))

-- the two words that a double is written as
unfoldable pub high_word : Float → ℕ
high_word x = to_bits binary64 x / 2 ^ 32

unfoldable pub low_word : Float → ℕ
low_word x = to_bits binary64 x % 2 ^ 32

-- a number from 0 up: not negative, where minus zero counts as negative, not infinite and no NaN
unfoldable pub non_negative : Float → Bool
non_negative nan = false
non_negative (inf s) = false
non_negative (fin s m e) = not s

-- a double as code has it: a value of the format. (The library's floats have room for others, with more digits than a double has.)
abbrev pub is_double : Float → Bool
is_double x = fits binary64 x
