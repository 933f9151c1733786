-- Rule 1: where all n read places are looked at, it is known whether reads are skewed.
use mathlib.Core.Path.{◌≡◌}
use mathlib.Core.Bool.{Bool, not}
use mathlib.Core.List.{List}
use Prim.Native.Nat.{ℕ}
use lib.ListN.{get_or}
use lib.Dec.{eqb}
use Rattle.words.specs.Count.{any}
use Rattle.rules.specs.Lag.{skewed}

pub skewed-by : {some : Bool} (j n : ℕ) (places : List ℕ) → j ≡ n → some ≡ any j (λ k. not (eqb (get_or places k 0) n)) → some ≡ skewed n places
unfolding skewed
skewed-by j n places e s = rw e at s
