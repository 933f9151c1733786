-- A helper of the contracts of `without` (src/mask.rt) and `ballot` (vote/src/lanes.rt), inner functions: no public contract rests on it.
-- A vector without one of its bits.
use Rattle.std.specs.Prelude.{ℕ, not, ◌&&◌, ◌==◌}
use Rattle.words.specs.Bits.{bit, pack}

-- the 32 bits of v with bit j cleared
unfoldable pub without : ℕ → ℕ → ℕ
without v j = pack 32 (λ h. not (h == j) && bit v h)
