-- Rule 8 for one module by fading scores: score and return count. (document 02, E9)
use Rattle.std.specs.Prelude.{ℕ, Bool, true, false, cond, Float}
use Rattle.std.specs.Float.{binary64}
use Rattle.std.specs.Float.Ieee.{add, mul, lt}
use Rattle.doubles.specs.Double.{double}
use Rattle.accounts.specs.Account.{awaited}
use Rattle.accounts.specs.declared.Account.{Account}

-- an account by scores with this return count
abbrev pub scored : Bool → Float → ℕ → Account
scored present score returns = record { present = present; penalty = 0; reward = 0; score = score; returns = returns }

-- a charge adds 1.0, a good round multiplies by the factor, each rounded once
unfoldable pub next_score : Float → Bool → Float → Float
next_score factor healthy score = cond healthy (mul binary64 score factor) (add binary64 score (double 1))

-- the module stays in the view where its score is below the limit; at or above it, it leaves
abbrev pub judged_by : Float → Float → Account
judged_by limit score = scored (lt score limit) score 0

-- a module in the view is charged or has a good round; one out of the view is awaited: its score is frozen, and it returns with score 0.0
unfoldable pub faded : Float → Float → ℕ → Bool → Account → Account
faded factor limit q healthy a =
    cond a.present (judged_by limit (next_score factor healthy a.score))
    (awaited (scored true (double 0) 0) (scored false a.score) q healthy a.returns)
