-- The limits of a setup's fields. (document 01, the table of "What runs"; document 02, E6 and E9)
use Rattle.std.specs.Prelude.{ℕ, Bool, true, false, ◌&&◌, Float}
use Rattle.std.specs.Float.Ieee.{lt, le}
use Rattle.doubles.specs.Double.{double, non_negative}
use Rattle.setup.specs.declared.Limits.{Limits}
use Rattle.setup.specs.declared.Limits.TheVariants.{Counts, Fading}

-- N
abbrev pub least_modules : ℕ
least_modules = 2

abbrev pub most_modules : ℕ
most_modules = 16

-- Q; 0 is for never
abbrev pub most_return_limit : ℕ
most_return_limit = 1000000

-- P and R are at least 1
abbrev pub most_penalty_limit : ℕ
most_penalty_limit = 1000000

abbrev pub most_reward_limit : ℕ
most_reward_limit = 8000000

-- a criticality is at least 1
abbrev pub most_criticality : ℕ
most_criticality = 100000

-- the limit of a score is above 0
abbrev pub most_score_limit : ℕ
most_score_limit = 1000000

-- whether limits are those of fading scores
abbrev pub fades : Limits → Bool
fades (Counts p r) = false
fades (Fading factor limit) = true

-- a factor within 0 to 1; minus zero counts as negative
unfoldable pub factor_fits : Float → Bool
factor_fits x = non_negative x && le x (double 1)

-- a limit above 0 and at most 1,000,000
unfoldable pub limit_fits : Float → Bool
limit_fits x = non_negative x && (lt (double 0) x && le x (double most_score_limit))
