-- Arrays of 16 doubles, of which the first n are in use.
use Rattle.std.specs.Prelude.{ℕ, ◌≡◌, Bool, ◌&&◌, ◌||◌, List, get_or, replicate, eqb, ltb, Float}
use Rattle.std.specs.Float.{nan, binary64}
use Rattle.std.specs.Float.Ieee.{to_bits}
use Rattle.words.specs.Table.{updated}
use Rattle.words.specs.Count.{all}
use Rattle.doubles.specs.Double.{double, is_double}

-- the double at place j of an array; no number past its end
abbrev pub entry : List Float → ℕ → Float
entry a j = get_or a j nan

-- an array of zeros
abbrev pub zeros : List Float
zeros = replicate 16 (double 0)

-- the array whose entries below n are f, and 0.0 from n on
unfoldable pub doubles : ℕ → (ℕ → Float) → List Float
doubles n f = updated n f zeros

-- an array of 16 doubles of which the first n are in use: it is made of its own entries, and those from n on are 0.0
abbrev pub FilledDoubles : ℕ → List Float → Type 0
FilledDoubles n a = doubles n (entry a) ≡ a

-- the entries are doubles, and those from n on are 0.0
unfoldable pub clear_doubles : ℕ → List Float → Bool
clear_doubles n a = all 16 (λ j. is_double (entry a j) && (ltb j n || eqb (to_bits binary64 (entry a j)) 0))
