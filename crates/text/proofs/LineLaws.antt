-- One text after another, and the lines of a round.
use mathlib.Core.Path.{◌≡◌, refl}
use mathlib.Core.Bool.{Bool}
use mathlib.Core.List.{List, ◌++◌, append_assoc}
use Prim.Native.Nat.{ℕ, zero, suc, ◌+◌, ◌<◌}
use native.Mathlib.Omega.{arith}
use native.Mathlib.Nat.{lt-suc_self}
use native.Mathlib.Numerals.{add-one}
use Rattle.text.specs.Text.{decimal}
use Rattle.text.specs.Lines.{line_with, lines_of}
use Rattle.text.specs.Wrote.{Wrote}
use Rattle.text.proofs.WroteLaws.{wrote_then}

-- ---- texts added to what there is

pub added_then : {b c : List ℕ} (a s t : List ℕ) → b ≡ a ++ s → c ≡ b ++ t → c ≡ a ++ (s ++ t)
added_then a s t e f = rw (f, e) (append_assoc a s t)

-- ---- the lines of a round

-- a turn of the loop that adds them
pub added_lines : (o : List ℕ) {a b digits : List ℕ} (n round : ℕ) (kept : Bool) (health view : ℕ → ℕ) (i : ℕ)
    → digits ≡ decimal round
    → a ≡ o ++ lines_of n round kept health view i
    → b ≡ a ++ line_with digits n kept i (health i) (view i)
    → b ≡ o ++ lines_of n round kept health view (i + 1)
unfolding lines_of
added_lines o n round kept health view i e w v = rw add-one (added_then o _ _ w (rw e at v))

-- the same of lines that are written at a place
pub lines_step : {o a b digits : List ℕ} {p q r : ℕ} (n round : ℕ) (kept : Bool) (health view : ℕ → ℕ) (i : ℕ)
    → digits ≡ decimal round
    → Wrote o p (lines_of n round kept health view i) a q
    → Wrote a q (line_with digits n kept i (health i) (view i)) b r
    → Wrote o p (lines_of n round kept health view (i + 1)) b r
unfolding lines_of
lines_step n round kept health view i e w v = rw add-one (wrote_then w (rw e at v))

-- the lines rest on the views of the modules alone
pub lines-ext : (n round : ℕ) (kept : Bool) (health view view' : ℕ → ℕ) (m : ℕ) → ((i : ℕ) → i < m → view i ≡ view' i)
    → lines_of n round kept health view m ≡ lines_of n round kept health view' m
unfolding lines_of
lines-ext n round kept health view view' zero e = refl
lines-ext n round kept health view view' (suc m) e =
    rw (lines-ext n round kept health view view' m (λ i h. e i (omega arith)), e m (lt-suc_self m))
