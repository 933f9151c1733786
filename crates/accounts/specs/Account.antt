-- Rule 8 for one module by counts: penalty, reward and return count. (document 01, "One step", rule 8; document 02, E6)
use Rattle.std.specs.Prelude.{ℕ, ◌+◌, Bool, true, false, cond, ◌&&◌, eqb, leb, ltb}
use Rattle.doubles.specs.Double.{double}
use Rattle.accounts.specs.declared.Account.{Account}

-- an account by counts with this return count
abbrev pub counts : Bool → ℕ → ℕ → ℕ → Account
counts present penalty reward returns = record { present = present; penalty = penalty; reward = reward; score = double 0; returns = returns }

-- one of which no round towards a return is counted, as that of a module in the view
abbrev pub uncounted : Bool → ℕ → ℕ → Account
uncounted present penalty reward = counts present penalty reward 0

-- health 0: the penalty grows by the criticality, the reward becomes 0, and above P the module leaves the view
unfoldable pub charged : ℕ → ℕ → Account → Account
charged p criticality a = uncounted (leb (a.penalty + criticality) p) (a.penalty + criticality) 0

-- health 1 with a penalty: the reward grows by 1, and at R both become 0; without a penalty nothing changes
unfoldable pub rewarded : ℕ → Account → Account
rewarded r a =
    cond (eqb a.penalty 0) (uncounted a.present a.penalty a.reward)
    (cond (leb r (a.reward + 1)) (uncounted a.present 0 0) (uncounted a.present a.penalty (a.reward + 1)))

-- out of the view, health 1: one round more is counted, and at Q the module returns; health 0: the count begins anew; where Q is 0 nothing is
-- counted, and nobody returns. `back` is its account where it returns, `away` the one with a return count where it does not.
unfoldable pub awaited : Account → (ℕ → Account) → ℕ → Bool → ℕ → Account
awaited back away q healthy returns = cond (healthy && ltb 0 q) (cond (leb q (returns + 1)) back (away (returns + 1))) (away 0)

-- a module in the view is charged or rewarded; one out of the view is awaited: its counters stay, and it returns with penalty P and reward 0
unfoldable pub accounted : ℕ → ℕ → ℕ → ℕ → Bool → Account → Account
accounted p r q criticality healthy a =
    cond a.present (cond healthy (rewarded r a) (charged p criticality a))
    (awaited (uncounted true p 0) (counts false a.penalty a.reward) q healthy a.returns)
