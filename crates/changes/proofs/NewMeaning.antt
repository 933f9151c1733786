-- A new module word beside the setup's own word.
use mathlib.Core.Path.{◌≡◌, ap, ◌∙◌, sym}
use mathlib.Core.Bool.{Bool, true}
use Prim.Native.Nat.{ℕ, ◌+◌, ◌*◌, ◌/◌, ◌%◌, ◌^◌, ◌<◌, ◌≤◌}
use native.Mathlib.Omega.{arith}
use lib.Dec.{eqb, leb}
use borrow.Author.Tests.{eqb-true, eq-eqb}
use Rattle.words.specs.Word.{number_unit}
use Rattle.words.specs.Bits.{bit, b2n}
use Rattle.words.specs.Verdict.{between}
use Rattle.words.proofs.Truth.{and_l, and_r, and-true}
use Rattle.words.proofs.BitLaws.{b2n-bit, b2n-le}
use Rattle.words.proofs.VerdictLaws.{between_is, between-of}
use Rattle.setup.specs.Limits.{most_criticality}
use Rattle.setup.specs.Setup.{place_unit, module_word, mark_in, place_in, criticality_in}
use Rattle.setup.specs.Check.{module_fits, mark_fits, module_ok, mark_ok}
use Rattle.setup.proofs.WordFields.{module-made, criticality-back}
use Rattle.changes.specs.Words.{new_module_ok}
use Rattle.changes.specs.Meaning.{NewWordMeans}

-- ---- what the test says

module _ (own new : ℕ) (t : new_module_ok own new ≡ true) where
  pub new-upper : new / place_unit ≡ own / place_unit
  unfolding new_module_ok
  new-upper = eqb-true (new / place_unit) (own / place_unit) (and_l (eqb (new / place_unit) (own / place_unit)) _ t)

  new-between : between 1 most_criticality (criticality_in new) ≡ true
  unfolding new_module_ok
  new-between = and_r (eqb (new / place_unit) (own / place_unit)) _ t

  pub new-least : 1 ≤ criticality_in new
  new-least = (between_is 1 most_criticality (criticality_in new) new-between).0

  pub new-most : criticality_in new ≤ most_criticality
  new-most = (between_is 1 most_criticality (criticality_in new) new-between).1

pub new-of : (own new : ℕ) → new / place_unit ≡ own / place_unit → 1 ≤ criticality_in new → criticality_in new ≤ most_criticality → new_module_ok own new ≡ true
unfolding new_module_ok
new-of own new e least most =
    and-true (eqb (new / place_unit) (own / place_unit)) _ (eq-eqb _ _ e) (between-of 1 most_criticality (criticality_in new) least most)

-- ---- words that are the same but for the criticality

module _ (own new : ℕ) (e : new / place_unit ≡ own / place_unit) where
  pub upper-place : place_in new ≡ place_in own
  upper-place = ap (λ (w : ℕ). w % 2 ^ 5) e

  pub upper-mark : mark_in new ≡ mark_in own
  unfolding bit
  upper-mark =
      let k : new / 2 ^ 22 ≡ own / 2 ^ 22 = omega arith in
      ap (λ (w : ℕ). eqb (w % 2) 1) k

  pub upper-number : new / number_unit ≡ own / number_unit
  upper-number = omega arith

upper_is : (w : ℕ) → w / 2 ^ 17 ≡ (w / 2 ^ 23 * 2 + b2n (mark_in w)) * 2 ^ 5 + place_in w
upper_is w =
    let m : b2n (mark_in w) ≡ w / 2 ^ 22 % 2 = b2n-bit w 22 in
    let a : w / 2 ^ 22 ≡ w / 2 ^ 23 * 2 + w / 2 ^ 22 % 2 = omega arith in
    let b : w / 2 ^ 17 ≡ w / 2 ^ 22 * 2 ^ 5 + w / 2 ^ 17 % 2 ^ 5 = omega arith in
    omega arith

pub upper-same : (own new : ℕ) → new / number_unit ≡ own / number_unit → place_in new ≡ place_in own → mark_in new ≡ mark_in own → new / place_unit ≡ own / place_unit
upper-same own new n p m =
    upper_is new ∙ (λ i. (n i * 2 + b2n (m i)) * 2 ^ 5 + p i) ∙ sym (upper_is own)

-- ---- words that numbers 5 and 6 accept

pub number_is : (n j w : ℕ) → module_ok n j w ≡ true → w / number_unit ≡ 4 * 2 ^ 5 + (j + 1)
unfolding module_ok
number_is n j w t = eqb-true (w / number_unit) (4 * 2 ^ 5 + (j + 1)) (and_l (eqb (w / number_unit) (4 * 2 ^ 5 + (j + 1))) _ t)

fields-are : (n j w : ℕ) → module_ok n j w ≡ true → module_fits n (place_in w) (criticality_in w) ≡ true
unfolding module_ok
fields-are n j w t = and_r (eqb (w / number_unit) (4 * 2 ^ 5 + (j + 1))) _ t

within-is : (n j w : ℕ) → module_ok n j w ≡ true → leb (place_in w) n ≡ true
unfolding module_fits
within-is n j w t = and_l (leb (place_in w) n) _ (fields-are n j w t)

criticality-is : (n j w : ℕ) → module_ok n j w ≡ true → between 1 most_criticality (criticality_in w) ≡ true
unfolding module_fits
criticality-is n j w t = and_r (leb (place_in w) n) _ (fields-are n j w t)

module _ (n j own new : ℕ) (o : module_ok n j own ≡ true) where
  new-accepted : new_module_ok own new ≡ true → module_ok n j new ≡ true
  unfolding module_ok module_fits
  new-accepted t =
      let e = new-upper own new t in
      and-true (eqb (new / number_unit) (4 * 2 ^ 5 + (j + 1))) _ (eq-eqb _ _ (upper-number own new e ∙ number_is n j own o))
      (and-true (leb (place_in new) n) _ (ap (λ (p : ℕ). leb p n) (upper-place own new e) ∙ within-is n j own o) (new-between own new t))

  new-marked : mark_ok j own ≡ true → new_module_ok own new ≡ true → mark_ok j new ≡ true
  unfolding mark_ok
  new-marked m t =
      let e = new-upper own new t in
      (λ i. mark_fits j (upper-mark own new e i) (upper-place own new e i)) ∙ m

  accepted-new : module_ok n j new ≡ true → place_in new ≡ place_in own → mark_in new ≡ mark_in own → new_module_ok own new ≡ true
  accepted-new w p m =
      let (least, most) = between_is 1 most_criticality (criticality_in new) (criticality-is n j new w) in
      new-of own new (upper-same own new (number_is n j new w ∙ sym (number_is n j own o)) p m) least most

pub new-word-means : NewWordMeans
new-word-means = record {
  passes = λ n j own new o m t. (
    new-accepted n j own new o t,
    new-marked n j own new o m t,
    upper-place own new (new-upper own new t),
    upper-mark own new (new-upper own new t),
  );
  all_pass = λ n j own new o m a b p k. accepted-new n j own new o a p k;
}

-- ---- words that are made of fields

upper-made : (j b place criticality : ℕ) → b ≤ 1 → place < 2 ^ 5 → criticality < 2 ^ 17
    → (4 * 2 ^ 28 + (j + 1) * 2 ^ 23 + b * 2 ^ 22 + place * 2 ^ 17 + criticality) / 2 ^ 17 ≡ ((4 * 2 ^ 5 + (j + 1)) * 2 + b) * 2 ^ 5 + place
upper-made j b place criticality hb hp hc = omega arith

-- a word with another criticality passes where that is in range
pub new-right : (j : ℕ) (mark : Bool) (place old new : ℕ) → place < 2 ^ 5 → old < 2 ^ 17 → 1 ≤ new → new ≤ most_criticality
    → new_module_ok (module_word j mark place old) (module_word j mark place new) ≡ true
new-right j mark place old new hp ho least most =
    let b = b2n-le mark in
    let k : criticality_in (module_word j mark place new) ≡ new = criticality-back j mark place new hp (omega arith) in
    new-of (module_word j mark place old) (module_word j mark place new)
    (upper-made j (b2n mark) place new b hp (omega arith) ∙ sym (upper-made j (b2n mark) place old b hp ho)) (rw k least) (rw k most)

-- a word that passes is made of the own word's fields and its own criticality
pub new-made : (j own new : ℕ) → own / number_unit ≡ 4 * 2 ^ 5 + (j + 1) → new_module_ok own new ≡ true
    → module_word j (mark_in own) (place_in own) (criticality_in new) ≡ new
new-made j own new e t =
    let u = new-upper own new t in
    (λ i. module_word j (sym (upper-mark own new u) i) (sym (upper-place own new u) i) (criticality_in new))
    ∙ module-made j new (upper-number own new u ∙ e)
