-- Numbers and bit vectors as text, in ASCII codes.
use Rattle.std.specs.Prelude.{ℕ, zero, suc, ◌+◌, ◌/◌, ◌%◌, cond, List, [], ◌∷◌, ◌++◌, ltb}
use Rattle.words.specs.Bits.{b2n, bit}

-- n in decimal, most significant digit first and without zeros before it, of at most `places` digits
unfoldable pub numeral : ℕ → ℕ → List ℕ
numeral zero n = []
numeral (suc places) n = cond (ltb n 10) ((48 + n) ∷ []) (numeral places (n / 10) ++ ((48 + n % 10) ∷ []))

-- n in decimal: any 32-bit number has at most 10 digits
abbrev pub decimal : ℕ → List ℕ
decimal n = numeral 10 n

-- the first n bits of v, bit 0 leftmost
unfoldable pub vector : ℕ → ℕ → List ℕ
vector zero v = []
vector (suc n) v = vector n v ++ ((48 + b2n (bit v n)) ∷ [])
