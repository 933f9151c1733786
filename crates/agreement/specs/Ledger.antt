-- Agreement does not depend on what rule 8 does: any account that is kept of the health vectors alone, the same at all rule-followers, stays the same.
-- Proved in proofs/Ledger.antt.
use Rattle.std.specs.Prelude.{ℕ, zero, suc, ◌≤◌, ◌≡◌}
use Rattle.agreement.specs.Session.{Session, Accepted, RuleFollower, health, Common, Bound}
use Rattle.agreement.specs.Demand.{KeptTo}

-- an account of any kind after k rounds at module i: begun with `start`, then changed by each health vector
unfoldable pub ledger : {A : Type 0} → A → (A → ℕ → A) → Session → ℕ → ℕ → A
ledger start account S i zero = start
ledger start account S i (suc k) = account (ledger start account S i k) (health S i (suc k))

-- any such account is the same at all rule-followers after round k, while the limit is kept up to round k - u
abbrev pub AnyAccount : Type 1
AnyAccount =
    (A : Type 0) (start : A) (account : A → ℕ → A) (S : Session) → Accepted S → (last : ℕ) → Bound S last → Common S last
    → (k : ℕ) → k ≤ last → KeptTo S k
    → (i i' : ℕ) → RuleFollower S i → RuleFollower S i' → ledger start account S i k ≡ ledger start account S i' k
