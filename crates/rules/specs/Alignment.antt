-- Rule 3: read alignment, after which every entry is of one round.
use Rattle.std.specs.Prelude.{ℕ, Bool, cond, ◌&&◌, get_or, ltb}
use Rattle.words.specs.Bits.{bit, pack}
use Rattle.words.specs.Array.{array}
use Rattle.rules.specs.declared.Reading.{Reading}

-- with u = 1, module j + 1 ≤ l comes from the previous read
abbrev pub from_previous : Bool → ℕ → ℕ → Bool
from_previous skew place j = skew && ltb j place

-- who is heard and the rows, both from the same read
unfoldable pub aligned_of : ℕ → Bool → ℕ → Reading → Reading → Reading
aligned_of n skew place previous this = record {
  heard = pack n (λ j. cond (from_previous skew place j) (bit previous.heard j) (bit this.heard j));
  rows = array n (λ j. cond (from_previous skew place j) (get_or previous.rows j 0) (get_or this.rows j 0));
}
