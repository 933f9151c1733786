-- Where the words of a setup of n modules stand. (document 01, "What runs", kinds 1 to 4; document 02, E9, kind 0)
use Rattle.std.specs.Prelude.{ℕ, ◌+◌, ◌*◌, Bool, true, false}

-- the head
abbrev pub head_at : ℕ
head_at = 0

-- the word whose kind says whether the setup fades: that of P where it counts, the kind 0 word where it fades
abbrev pub form_at : ℕ
form_at = 1

-- counting: the limits P and R
abbrev pub penalty_limit_at : ℕ
penalty_limit_at = 1

abbrev pub reward_limit_at : ℕ
reward_limit_at = 2

-- fading: the factor and the limit, two words each, the high half first
abbrev pub factor_at : ℕ
factor_at = 2

abbrev pub score_limit_at : ℕ
score_limit_at = 4

-- how many words the limits take: kinds 2 and 3, or kind 0 with the factor and the limit
abbrev pub limit_words : Bool → ℕ
limit_words true = 5
limit_words false = 2

-- how many words stand before those of the modules: the head and the limits
abbrev pub front_words : Bool → ℕ
front_words fades = 1 + limit_words fades

-- where a setup ends that has so many words before those of its n modules: how many words it has
abbrev pub setup_words : ℕ → ℕ → ℕ
setup_words front n = front + n

-- its length in bytes
abbrev pub setup_length : ℕ → ℕ → ℕ
setup_length front n = setup_words front n * 4
