-- Words in runs, one run after the other: what is written, and where.
use Rattle.std.specs.Prelude.{ℕ, zero, suc, ◌+◌, ◌-◌, cond, List, [], ◌∷◌, ◌++◌, nat_lt}
use Rattle.words.specs.Word.{put_word, bytes_of}

-- the words f 0, f 1, .. f (count - 1)
pub record Run : Type 0 where
  pub count : ℕ
  pub word : ℕ → ℕ

-- a run of one word
abbrev pub one : ℕ → Run
one w = record { count = 1; word = λ _. w }

-- how many words the runs have
unfoldable pub total : List Run → ℕ
total [] = 0
total (r ∷ rs) = r.count + total rs

-- the bytes of the runs
unfoldable pub runs_of : List Run → List ℕ
runs_of [] = []
runs_of (r ∷ rs) = bytes_of r.count r.word ++ runs_of rs

-- the bytes s with n words f from place `at` on
unfoldable pub put_run : List ℕ → ℕ → ℕ → (ℕ → ℕ) → List ℕ
put_run s at zero f = s
put_run s at (suc n) f = put_word (put_run s at n f) (at + n) (f n)

-- the bytes s with the runs from place `at` on
unfoldable pub put_runs : List ℕ → ℕ → List Run → List ℕ
put_runs s at [] = s
put_runs s at (r ∷ rs) = put_runs (put_run s at r.count r.word) (at + r.count) rs

-- word i of the runs; past their end 0, as in their bytes
unfoldable pub run_word : List Run → ℕ → ℕ
run_word [] i = 0
run_word (r ∷ rs) i = cond (nat_lt i r.count) (r.word i) (run_word rs (i - r.count))
