-- Text written at a place of lent bytes.
use Rattle.std.specs.Prelude.{ℕ, ◌+◌, ◌≤◌, ◌≡◌, List, ◌++◌, length, take, drop}

-- `new` is `old` with `text` from place p on and no other byte changed, and r is the place after the text
pub record Wrote (old : List ℕ) (p : ℕ) (text new : List ℕ) (r : ℕ) : Type 0 where
  pub next : r ≡ p + length text
  pub room : r ≤ length old
  pub bytes : new ≡ take p old ++ text ++ drop r old
