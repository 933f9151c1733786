-- A module word by its distance from the lowest word of its kind and number: it passes where it is right by numbers 5 and 6, and where it does
-- its read place is told from n by that distance too.
use Rattle.std.proofs.Common.{◌≡◌, ℕ, ◌+◌, ◌-◌, ◌*◌, ◌/◌, ◌%◌, ◌^◌, ◌<◌, ◌≤◌, Bool, true, false, not, ◌&&◌, eqb, ltb, leb, List, sym, refl, ap, ◌∙◌, ⊎_elim, arith, eq-eqb, ne_eqb, eqb-true, le-leb, leb-true}
use Rattle.words.specs.Word.{word_at, number_unit}
use Rattle.words.specs.Bits.{b2n}
use Rattle.words.specs.Count.{all, any}
use Rattle.words.specs.Verdict.{between}
use Rattle.words.proofs.Truth.{iff-eq, and_l, and_r, and-true, or_l, or_r, or_cases}
use Rattle.words.proofs.BitLaws.{b2n-bit}
use Rattle.words.proofs.CountLaws.{all-at, all_end, any-ext}
use Rattle.words.proofs.VerdictLaws.{between_is, between-of}
use Rattle.setup.specs.Limits.{most_criticality}
use Rattle.setup.specs.Setup.{mark_in, place_in, criticality_in}
use Rattle.setup.specs.Check.{module_fits, mark_fits, module_ok, mark_ok}
use Rattle.setup.specs.Modules.{module_right, marked_place, place_mark_fits, fields_fit}

-- a number less 32, which wraps, is at most j exactly for the numbers from 32 to 32 + j
pub less-thirty-two : {x : ℕ} (j place : ℕ) → j < 16 → place < 2 ^ 32 → x < 2 ^ 32 → (x + 32) % 2 ^ 32 ≡ place → leb x j ≡ between (2 ^ 5) (2 ^ 5 + j) place
less-thirty-two {x} j place hj hp hx e =
    iff-eq _ _ (λ t. let l = leb-true x j t in between-of (2 ^ 5) (2 ^ 5 + j) place (omega arith) (omega arith))
    (λ t. let b = between_is (2 ^ 5) (2 ^ 5 + j) place t in le-leb x j (omega arith))

-- ---- of a word of the kind and number

-- the mark is 32, and the read place stands below it
kind-place : (j w : ℕ) → j < 16 → w / 2 ^ 23 ≡ 4 * 2 ^ 5 + (j + 1) → marked_place j w ≡ b2n (mark_in w) * 2 ^ 5 + place_in w
unfolding marked_place
kind-place j w hj e =
    let m : b2n (mark_in w) ≡ w / 2 ^ 22 % 2 = b2n-bit w 22 in
    let a : w / 2 ^ 22 ≡ w / 2 ^ 23 * 2 + w / 2 ^ 22 % 2 = omega arith in
    let b : w / 2 ^ 17 ≡ w / 2 ^ 22 * 2 ^ 5 + w / 2 ^ 17 % 2 ^ 5 = omega arith in
    let x : (w + (2 ^ 32 - (4 * 2 ^ 5 + (j + 1)) * 2 ^ 23)) % 2 ^ 32 ≡ w - (4 * 2 ^ 5 + (j + 1)) * 2 ^ 23 = omega arith in
    rw x (omega arith)

-- any other is at least 64 away
kind-of : (j w : ℕ) → j < 16 → w < 2 ^ 32 → marked_place j w < 2 ^ 6 → w / 2 ^ 23 ≡ 4 * 2 ^ 5 + (j + 1)
unfolding marked_place
kind-of j w hj hw h = omega arith

-- ---- the test of read place and mark

fits-marked : (n j : ℕ) (mark : Bool) (place : ℕ) → n ≤ 16 → j < n → place < 2 ^ 5
    → place_mark_fits n j (b2n mark * 2 ^ 5 + place) ≡ leb place n && mark_fits j mark place
unfolding place_mark_fits mark_fits
fits-marked n j false place hn hj hp =
    iff-eq _ _
    (λ t. ⊎_elim (λ (l : leb (0 * 2 ^ 5 + place) n ≡ true).
    let b = leb-true (0 * 2 ^ 5 + place) n l in and-true (leb place n) true (le-leb place n (omega arith)) refl)
    (λ (r : ltb 0 j && between (2 ^ 5) (2 ^ 5 + j) (0 * 2 ^ 5 + place) ≡ true).
    absurd (let b = between_is (2 ^ 5) (2 ^ 5 + j) (0 * 2 ^ 5 + place) (and_r (ltb 0 j) _ r) in omega arith))
    (or_cases (leb (0 * 2 ^ 5 + place) n) _ t))
    (λ t.
    let b = leb-true place n (and_l (leb place n) _ t) in
    or_l (leb (0 * 2 ^ 5 + place) n) _ (le-leb (0 * 2 ^ 5 + place) n (omega arith)))
fits-marked n j true place hn hj hp =
    iff-eq _ _
    (λ t. ⊎_elim (λ (l : leb (1 * 2 ^ 5 + place) n ≡ true). absurd (let b = leb-true (1 * 2 ^ 5 + place) n l in omega arith))
    (λ (r : ltb 0 j && between (2 ^ 5) (2 ^ 5 + j) (1 * 2 ^ 5 + place) ≡ true).
    let b = between_is (2 ^ 5) (2 ^ 5 + j) (1 * 2 ^ 5 + place) (and_r (ltb 0 j) _ r) in
    and-true (leb place n) _ (le-leb place n (omega arith)) (and-true (ltb 0 j) _ (and_l (ltb 0 j) _ r) (le-leb place j (omega arith))))
    (or_cases (leb (1 * 2 ^ 5 + place) n) _ t))
    (λ t.
    let m = and_r (leb place n) _ t in
    let l = leb-true place j (and_r (ltb 0 j) _ m) in
    or_r (leb (1 * 2 ^ 5 + place) n) _
    (and-true (ltb 0 j) _ (and_l (ltb 0 j) _ m) (between-of (2 ^ 5) (2 ^ 5 + j) (1 * 2 ^ 5 + place) (omega arith) (omega arith))))

-- what passes is less than 64
fits-small : (n j place : ℕ) → n ≤ 16 → j < n → place_mark_fits n j place ≡ true → place < 2 ^ 6
unfolding place_mark_fits
fits-small n j place hn hj t =
    ⊎_elim (λ (l : leb place n ≡ true). let b = leb-true place n l in omega arith)
    (λ (r : ltb 0 j && between (2 ^ 5) (2 ^ 5 + j) place ≡ true).
    let b = between_is (2 ^ 5) (2 ^ 5 + j) place (and_r (ltb 0 j) _ r) in omega arith)
    (or_cases (leb place n) _ t)

-- ---- a word

module _ (n j w : ℕ) (hn : n ≤ 16) (hj : j < n) where
  place-small : place_in w < 2 ^ 5
  place-small = omega arith

  kind-is : module_ok n j w ≡ true → w / 2 ^ 23 ≡ 4 * 2 ^ 5 + (j + 1)
  unfolding module_ok
  kind-is t = eqb-true (w / number_unit) (4 * 2 ^ 5 + (j + 1)) (and_l (eqb (w / number_unit) (4 * 2 ^ 5 + (j + 1))) _ t)

  -- where kind and number are right, the tests are the same
  fits-kind : w / 2 ^ 23 ≡ 4 * 2 ^ 5 + (j + 1) → place_mark_fits n j (marked_place j w) ≡ leb (place_in w) n && mark_ok j w
  unfolding mark_ok
  fits-kind e = ap (place_mark_fits n j) (kind-place j w (omega arith) e) ∙ fits-marked n j (mark_in w) (place_in w) hn hj place-small

  -- a word passes where it is right by numbers 5 and 6
  fields-right : w < 2 ^ 32 → fields_fit n j (marked_place j w) (criticality_in w) ≡ module_right n j w
  unfolding fields_fit module_ok module_fits
  fields-right hw =
      iff-eq _ _
      (λ t.
      let c = and_l (between 1 most_criticality (criticality_in w)) _ t in
      let f = and_r (between 1 most_criticality (criticality_in w)) _ t in
      let e = kind-of j w (omega arith) hw (fits-small n j (marked_place j w) hn hj f) in
      let g : leb (place_in w) n && mark_ok j w ≡ true = sym (fits-kind e) ∙ f in
      and-true (module_ok n j w) (mark_ok j w)
      (and-true (eqb (w / number_unit) (4 * 2 ^ 5 + (j + 1))) _ (eq-eqb _ _ e) (and-true (leb (place_in w) n) _ (and_l (leb (place_in w) n) _ g) c))
      (and_r (leb (place_in w) n) _ g))
      (λ t.
      let m = and_l (module_ok n j w) (mark_ok j w) t in
      let e = kind-is m in
      let f : module_fits n (place_in w) (criticality_in w) ≡ true = and_r (eqb (w / number_unit) (4 * 2 ^ 5 + (j + 1))) _ m in
      and-true (between 1 most_criticality (criticality_in w)) _ (and_r (leb (place_in w) n) _ f)
      (fits-kind e ∙ and-true (leb (place_in w) n) _ (and_l (leb (place_in w) n) _ f) (and_r (module_ok n j w) (mark_ok j w) t)))

  -- and then its read place is n where the number of read place and mark is
  place-right : module_right n j w ≡ true → eqb (marked_place j w) n ≡ eqb (place_in w) n
  unfolding mark_ok mark_fits
  place-right t =
      ap (λ (x : ℕ). eqb x n) (kind-place j w (omega arith) (kind-is (and_l (module_ok n j w) (mark_ok j w) t)))
      ∙ same (mark_in w) (and_r (module_ok n j w) (mark_ok j w) t)
    where
      same : (mark : Bool) → mark_fits j mark (place_in w) ≡ true → eqb (b2n mark * 2 ^ 5 + place_in w) n ≡ eqb (place_in w) n
      same false m =
          let e : 0 * 2 ^ 5 + place_in w ≡ place_in w = omega arith in
          ap (λ (x : ℕ). eqb x n) e
      same true m =
          let l = leb-true (place_in w) j (and_r (ltb 0 j) _ m) in
          ne_eqb (1 * 2 ^ 5 + place_in w) n (omega arith) ∙ sym (ne_eqb (place_in w) n (omega arith))

-- ---- the pass over the words

-- what is found of a word
pub word-by : {w place : ℕ} {b : Bool} (front n j : ℕ) (s : List ℕ) → n ≤ 16 → j < n → w < 2 ^ 32 → w ≡ word_at s (front + j) → place ≡ marked_place j w
    → b ≡ fields_fit n j place (criticality_in w) → b ≡ module_right n j (word_at s (front + j))
word-by {w} front n j s hn hj hw e p f =
    f ∙ ap (λ (x : ℕ). fields_fit n j x (criticality_in w)) p ∙ fields-right n j w hn hj hw ∙ ap (module_right n j) e

-- where all words are right, some read place is not n exactly where some number of read place and mark is not
pub skew-by : {good skew : Bool} {j : ℕ} (front n : ℕ) (s : List ℕ) → n ≤ 16 → j ≡ n → good ≡ all j (λ k. module_right n k (word_at s (front + k)))
    → skew ≡ any j (λ k. not (eqb (marked_place k (word_at s (front + k))) n)) → good ≡ true
    → skew ≡ any n (λ k. not (eqb (place_in (word_at s (front + k))) n))
skew-by front n s hn e g k t =
    (rw e at k)
    ∙ any-ext n _ _
    (λ i h. ap not (place-right n i (word_at s (front + i)) hn h (all-at n (λ k. module_right n k (word_at s (front + k))) (sym (all_end _ e g) ∙ t) i h)))
