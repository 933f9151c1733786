-- A helper of what the functions of this crate require, which this project's crates alone call: no contract of a function that outsiders call rests
-- on it.
-- What rule 8 is counted within: every accepted setup and every state that it leads to keeps it.
use Rattle.std.specs.Prelude.{ℕ, ◌+◌, ◌-◌, ◌≤◌, ◌<◌, ◌≡◌, leb}
use Rattle.setup.specs.Limits.{most_return_limit, most_penalty_limit, most_reward_limit, most_criticality}
use Rattle.setup.specs.declared.Limits.{Limits}
use Rattle.setup.specs.declared.Limits.TheVariants.{Counts, Fading}
use Rattle.accounts.specs.declared.Account.{Account}

-- by counts: its penalty is at most the greatest P + criticality, its criticality at most the greatest, its reward below the greatest R,
-- its return count below the greatest Q; it is in the view where its penalty is not over P, and its return count is below Q, or 0
pub record InRange (p q criticality : ℕ) (a : Account) : Type 0 where
  pub penalty : a.penalty ≤ most_penalty_limit + most_criticality
  pub charge : criticality ≤ most_criticality
  pub reward : a.reward < most_reward_limit
  pub returns : a.returns < most_return_limit
  pub present : a.present ≡ leb a.penalty p
  pub below : a.returns ≤ q - 1

-- by scores, of which any may be added to and multiplied: the return count alone
pub record CountRange (q : ℕ) (a : Account) : Type 0 where
  pub returns : a.returns < most_return_limit
  pub below : a.returns ≤ q - 1

-- by the limits of a setup
abbrev pub AccountRange : Limits → ℕ → ℕ → Account → Type 0
AccountRange (Counts p r) q criticality a = InRange p q criticality a
AccountRange (Fading factor limit) q criticality a = CountRange q a
