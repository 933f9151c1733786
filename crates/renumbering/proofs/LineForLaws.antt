-- Lines by the text of their vectors, and the digits of a renumbered vector.
use Prim.Native.Nat.{ℕ, zero, suc, ◌+◌, ◌<◌}
use mathlib.Core.Path.{◌≡◌, refl, sym, ap, ap₂, ◌∙◌}
use mathlib.Core.Bool.{Bool}
use mathlib.Core.Logic.{⊎_elim}
use mathlib.Core.List.{List, [], ◌∷◌, ◌++◌}
use native.Mathlib.Omega.{arith}
use native.Mathlib.Nat.{eq-or-lt_of_le, le_of_suc-le-suc}
use lib.ListN.{get_or, length, length-append, get_or-append}
use lib.Seq.{get_or_at}
use Rattle.words.specs.Bits.{b2n, bit}
use Rattle.text.specs.Text.{decimal, vector}
use Rattle.text.specs.Lines.{limit_text, line_with, lines_of}
use Rattle.renumbering.specs.Renumbering.{Renumbering, vector_for}
use Rattle.renumbering.proofs.VectorForLaws.{vector-bit}

-- ---- lines by what they are made of

pub lines-ext : (n round : ℕ) (kept : Bool) (health health' view view' : ℕ → ℕ) (m : ℕ)
    → ((i : ℕ) → i < m → vector n (health' i) ≡ vector n (health i)) → ((i : ℕ) → i < m → vector n (view' i) ≡ vector n (view i))
    → lines_of n round kept health' view' m ≡ lines_of n round kept health view m
unfolding lines_of line_with
lines-ext n round kept health health' view view' zero h v = refl
lines-ext n round kept health health' view view' (suc m) h v =
    ap₂ (λ (x y : List ℕ). x ++ y) (lines-ext n round kept health health' view view' m (λ i l. h i (omega arith)) (λ i l. v i (omega arith)))
    (ap₂ (λ (x y : List ℕ). decimal round ++ (32 ∷ decimal (m + 1)) ++ (32 ∷ x) ++ (32 ∷ y) ++ (32 ∷ limit_text kept) ++ (10 ∷ []))
    (h m (omega arith)) (v m (omega arith)))

-- ---- a vector as text

vector-length : (n v : ℕ) → length (vector n v) ≡ n
unfolding vector
vector-length zero v = refl
vector-length (suc n) v = length-append (vector n v) _ ∙ omega (arith, vector-length n v)

digit_at : (n v j : ℕ) → j < n → get_or (vector n v) j 0 ≡ 48 + b2n (bit v j)
unfolding vector
digit_at zero v j h = absurd (omega arith)
digit_at (suc n) v j h =
    ⊎_elim
    (λ (e : j ≡ n).
    get_or_at (vector n v) (48 + b2n (bit v n)) [] 0 j (vector-length n v ∙ sym e) ∙ ap (λ (m : ℕ). 48 + b2n (bit v m)) (sym e))
    (λ (l : j < n). get_or-append (vector n v) ((48 + b2n (bit v n)) ∷ []) 0 j (rw vector-length l) ∙ digit_at n v j l)
    (eq-or-lt_of_le (le_of_suc-le-suc h))

pub digit-for : (n : ℕ) (π : Renumbering n) (v j : ℕ) → j < n → get_or (vector n (vector_for n π v)) (π.to j) 0 ≡ get_or (vector n v) j 0
digit-for n π v j h =
    digit_at n (vector_for n π v) (π.to j) (π.to_below j h)
    ∙ ap (λ (b : Bool). 48 + b2n b) (vector-bit n π v (π.to j) (π.to_below j h) ∙ ap (bit v) (π.from-to j h))
    ∙ sym (digit_at n v j h)

-- a vector of which no module moves
vector-ext : (n v v' : ℕ) → ((j : ℕ) → j < n → bit v' j ≡ bit v j) → vector n v' ≡ vector n v
unfolding vector
vector-ext zero v v' e = refl
vector-ext (suc n) v v' e =
    ap₂ (λ (x : List ℕ) (b : Bool). x ++ ((48 + b2n b) ∷ [])) (vector-ext n v v' (λ j h. e j (omega arith))) (e n (omega arith))

pub vector-unmoved : (n : ℕ) (π : Renumbering n) → ((j : ℕ) → j < n → π.from j ≡ j) → (v : ℕ) → vector n (vector_for n π v) ≡ vector n v
vector-unmoved n π e v = vector-ext n v (vector_for n π v) (λ j h. vector-bit n π v j h ∙ ap (bit v) (e j h))
