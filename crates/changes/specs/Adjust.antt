-- What a change does to the accounts at the start of the counting of its round. (document 02, E10)
use Rattle.std.specs.Prelude.{ℕ, ◌+◌, Bool, true, false, cond, ◌&&◌, get_or, leb}
use Rattle.words.specs.Bits.{pack}
use Rattle.words.specs.Array.{array}
use Rattle.accounts.specs.Round.{account_at}
use Rattle.accounts.specs.declared.Account.{Account}
use Rattle.accounts.specs.declared.Counters.{Counters}
use Rattle.changes.specs.declared.Pending.{Pending}

-- an account with these counters, whose score and return count are as they were
abbrev pub with_counters : Account → Bool → ℕ → ℕ → Account
with_counters a present penalty reward =
    record { present = present; penalty = penalty; reward = reward; score = a.score; returns = a.returns }

-- in the view with a reward at or above the new R: zero counters
unfoldable pub forgiven : ℕ → Account → Account
forgiven r a = cond (a.present && leb r a.reward) (with_counters a true 0 0) a

-- the penalty raised to at least P + 1 and cut to at most P + criticality
unfoldable pub fitted : ℕ → ℕ → ℕ → ℕ
fitted p criticality penalty =
    let raised = cond (leb (p + 1) penalty) penalty (p + 1) in
    cond (leb raised (p + criticality)) raised (p + criticality)

-- in the view with a penalty over the new P: it leaves; outside, those that just left among them: reward 0, the penalty fitted
unfoldable pub settled : ℕ → ℕ → Account → Account
settled p criticality a =
    cond (a.present && leb a.penalty p) a (with_counters a false (fitted p criticality a.penalty) 0)

-- one module
unfoldable pub adjusted : ℕ → ℕ → ℕ → Account → Account
adjusted p r criticality a = settled p criticality (forgiven r a)

-- the account of module j + 1
unfoldable pub adjusted_at : Pending → Counters → ℕ → Account
adjusted_at c k j = adjusted c.p c.r (get_or c.criticality j 0) (account_at k j)

-- all n modules: the view, the penalties and the rewards
unfoldable pub adjusted_of : ℕ → Pending → Counters → Counters
adjusted_of n c k = record {
  view = pack n (λ j. (adjusted_at c k j).present);
  penalty = array n (λ j. (adjusted_at c k j).penalty);
  reward = array n (λ j. (adjusted_at c k j).reward);
  score = k.score;
  returns = k.returns;
}
