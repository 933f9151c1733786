-- The lines of the bench: round, module, health, view, and `in` while the limit was kept so far, else `out`.
-- (document 01, "Bench sheet")
use Rattle.std.specs.Prelude.{ℕ, zero, suc, ◌+◌, Bool, cond, List, [], ◌∷◌, ◌++◌}
use Rattle.text.specs.Text.{decimal, vector}

-- `in` or `out`
abbrev pub limit_text : Bool → List ℕ
limit_text kept = cond kept (105 ∷ 110 ∷ []) (111 ∷ 117 ∷ 116 ∷ [])

-- the line of module i + 1 of n, with the round's number as text; module 1 stands leftmost in a vector
unfoldable pub line_with : List ℕ → ℕ → Bool → ℕ → ℕ → ℕ → List ℕ
line_with round n kept i health view =
    round ++ (32 ∷ decimal (i + 1)) ++ (32 ∷ vector n health) ++ (32 ∷ vector n view) ++ (32 ∷ limit_text kept) ++ (10 ∷ [])

-- the same in round `round`
abbrev pub line_of : ℕ → ℕ → Bool → ℕ → ℕ → ℕ → List ℕ
line_of n round kept i health view = line_with (decimal round) n kept i health view

-- the lines of the first modules of a round, as many as the last number says
unfoldable pub lines_of : ℕ → ℕ → Bool → (ℕ → ℕ) → (ℕ → ℕ) → ℕ → List ℕ
lines_of n round kept health view zero = []
lines_of n round kept health view (suc i) = lines_of n round kept health view i ++ line_of n round kept i (health i) (view i)

-- `refused N at W`
unfoldable pub refused_line : ℕ → ℕ → List ℕ
refused_line number index =
    (114 ∷ 101 ∷ 102 ∷ 117 ∷ 115 ∷ 101 ∷ 100 ∷ 32 ∷ decimal number) ++ (32 ∷ 97 ∷ 116 ∷ 32 ∷ decimal index) ++ (10 ∷ [])
