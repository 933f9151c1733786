-- A helper of the contracts of src/lent.rt, whose functions this project's crates alone call: no contract of a function that outsiders call rests on
-- it.
-- A change on lent arrays: x holds the penalties and y the rewards, and the view says who is in it.
use Rattle.std.specs.Prelude.{ℕ, List, get_or}
use Rattle.words.specs.Bits.{bit}
use Rattle.accounts.specs.Account.{counts}
use Rattle.accounts.specs.declared.Account.{Account}
use Rattle.changes.specs.Adjust.{adjusted}

-- the account of module j + 1 after the change; nothing is said of its return count
unfoldable pub adjusted_in : ℕ → ℕ → ℕ → List ℕ → List ℕ → List ℕ → ℕ → Account
adjusted_in view p r k x y j = adjusted p r (get_or k j 0) (counts (bit view j) (get_or x j 0) (get_or y j 0) 0)
