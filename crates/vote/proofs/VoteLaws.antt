-- Rule 4: when the vote gives a known value, and when two votes are one. For every number of modules together.
use Prim.Native.Nat.{ℕ, ◌+◌, ◌-◌, ◌≤◌, ◌<◌}
use mathlib.Core.Path.{◌≡◌, refl, ◌∙◌}
use mathlib.Core.Bool.{Bool, true, false, not, ◌&&◌}
use mathlib.Core.Logic.{◌⊎◌, inr, ⊎_elim, ◌≢◌}
use mathlib.Core.List.{List}
use native.Mathlib.Omega.{arith}
use native.Mathlib.Nat.{eq-zero-or-pos}
use lib.ListN.{get_or}
use lib.Dec.{eqb}
use borrow.Author.Tests.{le-leb, lt-leb, eqb-false, ne_eqb}
use Rattle.words.specs.Bits.{bit}
use Rattle.words.specs.Count.{count}
use Rattle.words.proofs.Truth.{which}
use Rattle.words.proofs.CountLaws.{count-ext, count-split}
use Rattle.vote.specs.Vote.{decision, tally, vote_of}

pos-of-ne : (n : ℕ) → (n ≡ 0 → ⊥) → 0 < n
pos-of-ne n h = ⊎_elim (λ e. absurd (h e)) (λ g. g) (eq-zero-or-pos n)

decides-one : (votes ones : ℕ) (own : Bool) → own ≡ true → votes ≤ ones + ones → decision votes ones own ≡ true
unfolding decision
decides-one votes ones own e h =
    ⊎_elim (λ (t : eqb votes 0 ≡ true). rw t e) (λ (f : eqb votes 0 ≡ false). rw f (le-leb (votes - ones) ones (omega arith))) (which (eqb votes 0))

decides-zero : (votes ones : ℕ) (own : Bool) → own ≡ false → (0 < votes → ones + ones < votes) → decision votes ones own ≡ false
unfolding decision
decides-zero votes ones own e h =
    ⊎_elim (λ (t : eqb votes 0 ≡ true). rw t e)
    (λ (f : eqb votes 0 ≡ false). let g = h (pos-of-ne votes (eqb-false votes 0 f)) in rw f (lt-leb (votes - ones) ones (omega arith)))
    (which (eqb votes 0))

-- a vote that is not empty does not ask the own syndrome
decides-alone : (votes ones : ℕ) (a b : Bool) → 0 < votes → decision votes ones a ≡ decision votes ones b
unfolding decision
decides-alone votes ones a b h = let f : eqb votes 0 ≡ false = ne_eqb votes 0 (λ e. omega arith) in cc

-- a bit is v
abbrev pub same : Bool → Bool → Bool
same b true = b
same b false = not b

and-not-not : (a b : Bool) → a && b ≡ a && not (not b)
and-not-not true true = refl
and-not-not true false = refl
and-not-not false b = refl

-- Where at most m present rows say other than v, and m is none or fewer than say v, the vote is v.
pub tally-value : (n : ℕ) (p q : ℕ → Bool) (own v : Bool) (m : ℕ) → own ≡ v
    → count n (λ l. p l && not (same (q l) v)) ≤ m → (m ≡ 0) ⊎ (m < count n (λ l. p l && same (q l) v))
    → tally n p q own ≡ v
unfolding tally
tally-value n p q own true m e wrong right =
    decides-one (count n p) (count n (λ l. p l && q l)) own e
    (let s = count-split n p q in ⊎_elim (λ z. omega arith) (λ z. omega arith) right)
tally-value n p q own false m e wrong right =
    decides-zero (count n p) (count n (λ l. p l && q l)) own e
    (λ some. let s = count-split n p q in
    let d : count n (λ l. p l && q l) ≡ count n (λ l. p l && not (not (q l))) = count-ext n _ _ (λ l h. and-not-not (p l) (q l)) in
    ⊎_elim (λ z. omega arith) (λ z. omega arith) right)

-- Two votes over the same rows are one, if they are not empty or the own syndromes are the same.
pub tally-ext : (n : ℕ) (p q p' q' : ℕ → Bool) (own own' : Bool) → ((l : ℕ) → l < n → p l ≡ p' l)
    → ((l : ℕ) → l < n → p l && q l ≡ p' l && q' l) → (0 < count n p) ⊎ (own ≡ own')
    → tally n p q own ≡ tally n p' q' own'
unfolding tally
tally-ext n p q p' q' own own' hp hq o =
    let e = count-ext n p p' hp in
    let d = count-ext n (λ l. p l && q l) (λ l. p' l && q' l) hq in
    ⊎_elim (λ h. decides-alone (count n p) (count n (λ l. p l && q l)) own own' h ∙ cc) (λ h. cc) o

-- The row of j has no say in the vote on j: neither what it says nor whether it is there.
pub own_row : (n voters voters' : ℕ) (rows rows' : List ℕ) (own j : ℕ)
    → ((l : ℕ) → l < n → l ≢ j → (bit voters l ≡ bit voters' l) × (get_or rows l 0 ≡ get_or rows' l 0))
    → vote_of n voters rows own j ≡ vote_of n voters' rows' own j
unfolding vote_of
own_row n voters voters' rows rows' own j alike =
    tally-ext n _ _ _ _ _ _ (λ l h. (here l h).0) (λ l h. (here l h).1) (inr refl)
  where
    here : (l : ℕ) → l < n
        → (not (eqb l j) && bit voters l ≡ not (eqb l j) && bit voters' l)
        × (not (eqb l j) && bit voters l && bit (get_or rows l 0) j ≡ not (eqb l j) && bit voters' l && bit (get_or rows' l 0) j)
    here l h =
        ⊎_elim (λ (t : eqb l j ≡ true). (rw t, rw t))
        (λ (f : eqb l j ≡ false). let (v, r) = alike l h (eqb-false l j f) in (cc, cc)) (which (eqb l j))
