-- What a check answers, and how checks follow one another: the first that fails gives the number and the index.
-- (document 01, "Answers and their order")
use Rattle.std.specs.Prelude.{ℕ, ◌+◌, ◌-◌, Bool, true, cond, not, ◌&&◌, List, [], ◌∷◌, ◌==◌, nat_le}
use Rattle.words.specs.Count.{lowest, all}

-- the number of a refusal and the index of its word; 0 and 0 where nothing is refused
pub record Verdict : Type 0 where
  pub number : ℕ
  pub index : ℕ

-- a number and an index
abbrev pub verdict : ℕ → ℕ → Verdict
verdict number index = record { number = number; index = index }

-- nothing is refused: number 0, index 0
abbrev pub accepted : Verdict
accepted = verdict 0 0

-- the number is 0
abbrev pub is_accepted : Verdict → Bool
is_accepted v = v.number == 0

-- from low to high, both included
abbrev pub between : ℕ → ℕ → ℕ → Bool
between low high v = nat_le low v && nat_le v high

-- the next answer where v accepts, else v
unfoldable pub and_then : Verdict → Verdict → Verdict
and_then v next = cond (is_accepted v) next v

-- `count` words from a place on, which are refused by `number` at the first that is not ok
pub record Test : Type 0 where
  pub count : ℕ
  pub ok : ℕ → Bool
  pub number : ℕ
  pub place : ℕ

-- a word for each of n
abbrev pub each : ℕ → (ℕ → Bool) → ℕ → ℕ → Test
each n ok number place = record { count = n; ok = ok; number = number; place = place }

-- one word
abbrev pub single : Bool → ℕ → ℕ → Test
single ok number place = each 1 (λ _. ok) number place

-- the answer of one test
unfoldable pub outcome : Test → Verdict
outcome t =
    let found = lowest t.count (λ j. not (t.ok j)) in
    cond (found == 0) accepted (verdict t.number (t.place + found - 1))

-- the answer v, then tests in their order
unfoldable pub then_tests : Verdict → List Test → Verdict
then_tests v [] = v
then_tests v (t ∷ ts) = then_tests (and_then v (outcome t)) ts

-- the answer of tests in their order
abbrev pub first_refusal : List Test → Verdict
first_refusal ts = then_tests accepted ts

-- every word is right
unfoldable pub all_right : List Test → Bool
all_right [] = true
all_right (t ∷ ts) = all t.count t.ok && all_right ts
