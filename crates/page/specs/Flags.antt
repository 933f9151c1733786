-- Flags: vectors of 32 bits.
use Rattle.std.specs.Prelude.{ℕ, Bool, not, ◌&&◌, ◌||◌}
use Rattle.words.specs.Bits.{bit, pack}
use Rattle.words.specs.Count.{any}

-- the bits of u and those of v
unfoldable pub joined : ℕ → ℕ → ℕ
joined u v = pack 32 (λ j. bit u j || bit v j)

-- the bits of u that are not in v
unfoldable pub cleared : ℕ → ℕ → ℕ
cleared u v = pack 32 (λ j. bit u j && not (bit v j))

-- u and v share a set bit
unfoldable pub shared : ℕ → ℕ → Bool
shared u v = any 32 (λ j. bit u j && bit v j)
