-- What the check of a saved state answers, by what was found of its head, its length and its words.
use Rattle.std.proofs.Common.{◌≡◌, ℕ, zero, suc, ◌/◌, ◌%◌, ◌<◌, ◌≤◌, Bool, true, false, cond, ◌&&◌, eqb, List, length, Option, Some, None, Result, Ok, Err, sym, refl, ap, ◌∙◌, ap₂, arith, eq-eqb, eqb-true}
use Rattle.words.specs.Word.{word_at, kind_unit}
use Rattle.words.specs.Verdict.{Verdict, is_accepted, single, outcome, all_right, first_refusal}
use Rattle.words.specs.Refusal.{refusal_told, told}
use Rattle.words.specs.declared.Refusal.{Refusal}
use Rattle.words.proofs.Truth.{cond-true, cond-false}
use Rattle.words.proofs.VerdictLaws.{tests-accept, and-then-accepts}
use Rattle.words.proofs.RefusalLaws.{told-none, told-err, told-on, then-stops, then-goes, single-by}
use Rattle.setup.specs.Limits.{most_return_limit}
use Rattle.setup.specs.Layout.{front_words}
use Rattle.setup.specs.Setup.{size_in, return_limit_in, partitionable_in, fades_in, front_in}
use Rattle.setup.specs.Check.{head_ok, check_head, check_words}
use Rattle.setup.proofs.WordFields.{head-made}
use Rattle.setup.proofs.SetupCheckLaws.{HeadFits, head-pass, head_ok_lem}
use Rattle.setup.proofs.SetupAnswerLaws.{head-stays, head-length}
use Rattle.image.specs.Layout.{left_at, image_length}
use Rattle.image.specs.Check.{image_tests, image_length_in, check_tail, image_size, found_size, check_image}
use Rattle.image.proofs.TailLaws.{image-numbers, tests-parts}

-- `first` is the answer of numbers 1 and 2
module _ {first : Result (Unit {0}) Refusal} (s : List ℕ) (e : told first ≡ check_head s true) where
  pub image-head : {r : Refusal} → first ≡ Err r → refusal_told r ≡ check_image s
  unfolding check_image
  image-head i = told-on i ∙ head-stays s e _ _ (told-err i)

  -- n modules, whose words stand after the first `front`, by the form of the setup
  module _ {n front : ℕ} {b : Bool} {x₀ : Unit {0}} (i₀ : first ≡ Ok x₀) (size : n ≡ size_in (word_at s 0)) (form : b ≡ fades_in (word_at s)) (at : front ≡ front_words b) where
    length-is : image_length front n (word_at s (left_at front n)) (partitionable_in (word_at s 0)) ≡ image_length_in s
    length-is = ap₂ (λ (x m : ℕ). image_length x m (word_at s (left_at x m)) (partitionable_in (word_at s 0))) (at ∙ ap front_words form) size

    head-whole : {fit : Bool} {v : Verdict} → fit ≡ eqb (length s) (image_length front n (word_at s (left_at front n)) (partitionable_in (word_at s 0)))
        → v ≡ outcome (single fit 3 0) → v ≡ check_head s (eqb (length s) (image_length_in s))
    head-whole t h = head-length s e _ (told-none i₀) (single-by 3 0 (t ∙ ap (eqb (length s)) length-is) h)

    -- `fit` is what was asked of the length, `whole` the answer of number 3
    module _ {fit : Bool} {whole : Result (Unit {0}) Refusal} (t : fit ≡ eqb (length s) (image_length front n (word_at s (left_at front n)) (partitionable_in (word_at s 0))))
        (e₁ : told whole ≡ outcome (single fit 3 0)) where
      pub image-short : {r : Refusal} → whole ≡ Err r → refusal_told r ≡ check_image s
      unfolding check_image
      image-short i = then-stops _ (head-whole t e₁) i

      module _ {x₁ : Unit {0}} (i₁ : whole ≡ Ok x₁) where
        goes : {v : Verdict} → v ≡ first_refusal (image_tests s n) → v ≡ check_image s
        unfolding check_image
        goes a = then-goes _ (head-whole t e₁) i₁ (a ∙ ap (λ (m : ℕ). first_refusal (image_tests s m)) size)

        -- `words` is the answer for the setup's words, v that for the others
        module _ {words : Result (Unit {0}) Refusal} (e₂ : told words ≡ check_words s n) where
          pub image-words : {r : Refusal} → words ≡ Err r → refusal_told r ≡ check_image s
          image-words i = goes (then-stops _ e₂ i ∙ sym (tests-parts s n))

          pub image-tail : {x₂ : Unit {0}} {v : Verdict} → words ≡ Ok x₂ → v ≡ check_tail b (word_at s) n → v ≡ check_image s
          image-tail i d = goes (then-goes _ e₂ i (d ∙ ap (λ (f : Bool). check_tail f (word_at s) n) form) ∙ sym (tests-parts s n))

-- ---- the size, where head and length are right

-- as code answers it
pub size-counted : (n : ℕ) → 0 < n → Some n ≡ found_size n
size-counted zero h = absurd (omega arith)
size-counted (suc n) h = refl

some-size : (k : ℕ) {n : ℕ} → Some n ≡ found_size k → (n ≡ k) × (n ≡ 0 → ⊥)
some-size zero e = cc
some-size (suc k) {n} e =
    let d : n ≡ suc k = cc in
    (d, λ z. omega (arith, d))

none-size : (k : ℕ) → None ≡ found_size k → k ≡ 0
none-size zero e = refl
none-size (suc k) e = cc

module _ {r : Option ℕ} (s : List ℕ) (e : r ≡ found_size (image_size s)) where
  pub size-some : {n : ℕ} → r ≡ Some n → (n ≡ image_size s) × (n ≡ 0 → ⊥)
  size-some i = some-size _ (sym i ∙ e)

  pub size-gone : r ≡ None → image_size s ≡ 0
  size-gone i = none-size _ (sym i ∙ e)

module _ (s : List ℕ) where
  abbrev headed : Bool
  headed = is_accepted (check_head s (eqb (length s) (image_length_in s)))

  -- 0 where one of them is wrong
  pub size_none : (HeadFits s → length s ≡ image_length_in s → ⊥) → 0 ≡ image_size s
  unfolding image_size
  size_none f = sym (cond-false _ 0 (go headed refl))
    where
      go : (a : Bool) → headed ≡ a → headed ≡ false
      go false e = e
      go true e =
          let (h, g) = head-pass s (eqb (length s) (image_length_in s)) (eqb-true _ 0 e) in
          absurd (f h (eqb-true _ _ g))

  -- a length that the words of a right head ask for is a whole number of words
  module _ (ok : head_ok (word_at s 0) ≡ true) (l : length s ≡ image_length_in s) where
    head-there : HeadFits s
    head-there =
        let m = (head-made (word_at s 0) ok).0 in
        record { whole = omega arith; room = omega (arith, m.least); head = ok; least = m.least; most = m.most }

    pub size-there : size_in (word_at s 0) ≡ image_size s
    unfolding image_size
    size-there = sym (cond-true _ 0 (ap is_accepted (head_ok_lem s (eqb (length s) (image_length_in s)) head-there (eq-eqb _ _ l))))

  -- the length by the kind of the second word
  pub length-by : {front n : ℕ} → front ≡ front_words (eqb (word_at s 1 / kind_unit) 0) → n ≡ size_in (word_at s 0)
      → image_length front n (word_at s (left_at front n)) (partitionable_in (word_at s 0)) ≡ image_length_in s
  unfolding fades_in
  length-by e d = rw (e, d)

  accepted-by : is_accepted (check_image s) ≡ headed && all_right (image_tests s (size_in (word_at s 0)))
  unfolding check_image
  accepted-by =
      and-then-accepts (check_head s (eqb (length s) (image_length_in s))) _
      ∙ ap (λ (b : Bool). headed && b) (tests-accept (image_tests s (size_in (word_at s 0))) (image-numbers s (size_in (word_at s 0))))

  -- size 0: number 1, 2 or 3
  pub size-refused : image_size s ≡ 0 → is_accepted (check_image s) ≡ false
  unfolding image_size
  size-refused z = accepted-by ∙ go headed refl z
    where
      go : (a : Bool) → headed ≡ a → cond a (size_in (word_at s 0)) 0 ≡ 0 → a && all_right (image_tests s (size_in (word_at s 0))) ≡ false
      go true t e =
          let h = (head-pass s _ (eqb-true _ 0 t)).0.least in
          absurd (omega arith)
      go false t e = refl

  module _ {n : ℕ} (e : n ≡ image_size s) (some : n ≡ 0 → ⊥) where
    headed-so : headed ≡ true
    unfolding image_size
    headed-so = go headed refl
      where
        go : (a : Bool) → headed ≡ a → a ≡ true
        go true t = refl
        go false t = absurd (some (e ∙ cond-false _ 0 t))

    size_same : n ≡ size_in (word_at s 0)
    unfolding image_size
    size_same = e ∙ cond-true _ 0 headed-so

    pub size_fits : (n ≤ 16) × (length s ≡ image_length (front_in (word_at s)) n (word_at s (left_at (front_in (word_at s)) n)) (partitionable_in (word_at s 0))) × (n ≡ size_in (word_at s 0)) × (length s % 4 ≡ 0)
    size_fits =
        let (h, f) = head-pass s (eqb (length s) (image_length_in s)) (eqb-true _ 0 headed-so) in
        let m = h.most in
        (omega (arith, size_same), eqb-true _ _ f ∙ ap (λ (m : ℕ). image_length (front_in (word_at s)) m (word_at s (left_at (front_in (word_at s)) m)) (partitionable_in (word_at s 0))) (sym size_same), size_same, h.whole)

    -- the return limit of the head
    pub size-return : return_limit_in (word_at s 0) ≤ most_return_limit
    size-return =
        let (h, f) = head-pass s (eqb (length s) (image_length_in s)) (eqb-true _ 0 headed-so) in
        (head-made (word_at s 0) h.head).0.limit

    -- then the words decide
    pub by-words : {good : Bool} → good ≡ all_right (image_tests s n) → good ≡ is_accepted (check_image s)
    by-words g =
        g ∙ ap (λ (m : ℕ). all_right (image_tests s m)) size_same ∙ sym (accepted-by ∙ ap (λ (b : Bool). b && all_right (image_tests s (size_in (word_at s 0)))) headed-so)
