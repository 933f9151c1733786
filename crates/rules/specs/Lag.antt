-- Rule 1: u. Step k votes on the words of round k - u.
use Rattle.std.specs.Prelude.{ℕ, Bool, not, List, get_or, eqb}
use Rattle.words.specs.Bits.{b2n}
use Rattle.words.specs.Count.{any}

-- some read place is not N
unfoldable pub skewed : ℕ → List ℕ → Bool
skewed n places = any n (λ j. not (eqb (get_or places j 0) n))

-- u = 0 if every l is N, else 1
abbrev pub lag : ℕ → List ℕ → ℕ
lag n places = b2n (skewed n places)
