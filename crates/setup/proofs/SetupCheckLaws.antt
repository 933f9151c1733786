-- What holds of bytes that pass the check of a setup.
use Rattle.std.proofs.Common.{◌≡◌, ℕ, ◌+◌, ◌%◌, ◌<◌, ◌≤◌, Bool, true, not, ◌&&◌, eqb, leb, List, [], ◌∷◌, length, sym, refl, ap, ◌∙◌, arith, eq-eqb, ne_eqb, eqb-true, leb-true}
use borrow.Author.Tests.{eqb-false, not-true}
use Rattle.words.specs.Word.{word_at}
use Rattle.words.specs.Verdict.{Test, accepted, and_then, all_right}
use Rattle.words.specs.Verdict.{Verdict}
use Rattle.words.proofs.Truth.{and_l, and_r, and-true}
use Rattle.words.proofs.VerdictLaws.{Passed, numbered, and-then-next, and-then-pass, all-passed, passed-all, tests-pass, tests-ok, right-join, numbers-join}
use Rattle.setup.specs.Setup.{size_in, fades_in, front_in}
use Rattle.setup.specs.Check.{whole, head_ok, module_ok, mark_ok, limit_tests, module_test, module_tests, head_tests, word_tests, length_in, check_head, check_words, check_setup, check_front}
use Rattle.setup.proofs.WordFields.{head-made}
use Rattle.setup.proofs.BoundLaws.{limit-numbers}

-- ---- numbers 1 to 3

pub record HeadFits (s : List ℕ) : Type 0 where
  pub whole : length s % 4 ≡ 0
  pub room : 4 ≤ length s
  pub head : head_ok (word_at s 0) ≡ true
  pub least : 2 ≤ size_in (word_at s 0)
  pub most : size_in (word_at s 0) ≤ 16

pub whole_is : (s : List ℕ) → whole s ≡ true → (length s % 4 ≡ 0) × (4 ≤ length s)
unfolding whole
whole_is s e =
    let z = eqb-false (length s) 0 (not-true (eqb (length s) 0) (and_l (not (eqb (length s) 0)) _ e)) in
    let m : length s % 4 ≡ 0 = eqb-true _ 0 (and_r (not (eqb (length s) 0)) _ e) in
    (m, omega arith)

whole_of : (s : List ℕ) → length s % 4 ≡ 0 → 4 ≤ length s → whole s ≡ true
unfolding whole
whole_of s m l = and-true (not (eqb (length s) 0)) _ (ap not (ne_eqb (length s) 0 (omega arith))) (eq-eqb (length s % 4) 0 m)

pub head-numbers : (s : List ℕ) (fits : Bool) → numbered (head_tests s fits) ≡ true
unfolding numbered
head-numbers s fits = refl

pub head-pass : (s : List ℕ) (fits : Bool) → (check_head s fits).number ≡ 0 → HeadFits s × (fits ≡ true)
unfolding check_head Passed
head-pass s fits e =
    let (w, (h, (f, _))) = tests-pass (head_tests s fits) (head-numbers s fits) e in
    let n = (head-made (word_at s 0) (h 0 (omega arith))).0 in
    let l = whole_is s (w 0 (omega arith)) in
    (record { whole = l.0; room = l.1; head = h 0 (omega arith); least = n.least; most = n.most }, f 0 (omega arith))

pub head_ok_lem : (s : List ℕ) (fits : Bool) → HeadFits s → fits ≡ true → check_head s fits ≡ accepted
unfolding check_head Passed
head_ok_lem s fits h f = tests-ok (head_tests s fits) (λ _ _. whole_of s h.whole h.room, (λ _ _. h.head, (λ _ _. f, tt)))

-- ---- numbers 4 to 6 and 22

pub record WordsFit (s : List ℕ) (n : ℕ) : Type 0 where
  pub limits : all_right (limit_tests (fades_in (word_at s)) (word_at s)) ≡ true
  pub each : (j : ℕ) → j < n → module_ok n j (word_at s (front_in (word_at s) + j)) ≡ true
  pub marks : (j : ℕ) → j < n → mark_ok j (word_at s (front_in (word_at s) + j)) ≡ true

-- the tests of the module words, by 5 and by 6
abbrev pub both_tests : List ℕ → ℕ → List Test
both_tests s n = module_tests (word_at s) (front_in (word_at s)) n 5 ∷ module_tests (word_at s) (front_in (word_at s)) n 6 ∷ []

pub word-numbers : (s : List ℕ) (n : ℕ) → numbered (word_tests s n) ≡ true
unfolding numbered
word-numbers s n = numbers-join (limit_tests (fades_in (word_at s)) (word_at s)) (both_tests s n) (limit-numbers (fades_in (word_at s)) (word_at s)) refl

pub words-pass : (s : List ℕ) (n : ℕ) → (check_words s n).number ≡ 0 → WordsFit s n
unfolding check_words module_test Passed
words-pass s n e =
    let ts = limit_tests (fades_in (word_at s)) (word_at s) in
    let t : all_right ts && all_right (both_tests s n) ≡ true =
    sym (right-join ts (both_tests s n)) ∙ passed-all (word_tests s n) (tests-pass (word_tests s n) (word-numbers s n) e)
    in
    let (each, (marks, _)) = all-passed (both_tests s n) (and_r (all_right ts) _ t) in
    record { limits = and_l (all_right ts) _ t; each = each; marks = marks }

pub words-ok : (s : List ℕ) (n : ℕ) → WordsFit s n → check_words s n ≡ accepted
unfolding check_words module_test Passed
words-ok s n f =
    let ts = limit_tests (fades_in (word_at s)) (word_at s) in
    let t : all_right (both_tests s n) ≡ true = passed-all (both_tests s n) (f.each, (f.marks, tt)) in
    tests-ok (word_tests s n) (all-passed (word_tests s n) (right-join ts (both_tests s n) ∙ and-true (all_right ts) _ f.limits t))

-- ---- a setup by itself, and one at the front of a script

pub record BytesFit (s : List ℕ) : Type 0 where
  pub front : HeadFits s
  pub size : length s ≡ length_in s
  pub words : WordsFit s (size_in (word_at s 0))

pub setup-pass : (s : List ℕ) → (check_setup s).number ≡ 0 → BytesFit s
unfolding check_setup
setup-pass s e =
    let n = size_in (word_at s 0) in
    let (a, b) = and-then-pass (check_head s (eqb (length s) (length_in s))) (check_words s n) e in
    let (h, f) = head-pass s (eqb (length s) (length_in s)) a in
    record { front = h; size = eqb-true (length s) (length_in s) f; words = words-pass s n b }

pub setup-ok : (s : List ℕ) → BytesFit s → check_setup s ≡ accepted
unfolding check_setup
setup-ok s f =
    let n = size_in (word_at s 0) in
    ap (λ (v : Verdict). and_then v (check_words s n)) (head_ok_lem s _ f.front (eq-eqb _ _ f.size))
    ∙ and-then-next accepted (check_words s n) refl
    ∙ words-ok s n f.words

pub record FrontFits (s : List ℕ) : Type 0 where
  pub front : HeadFits s
  pub room : length_in s ≤ length s
  pub words : WordsFit s (size_in (word_at s 0))

pub front-pass : (s : List ℕ) → (check_front s).number ≡ 0 → FrontFits s
unfolding check_front
front-pass s e =
    let n = size_in (word_at s 0) in
    let (a, b) = and-then-pass (check_head s (leb (length_in s) (length s))) (check_words s n) e in
    let (h, f) = head-pass s (leb (length_in s) (length s)) a in
    record { front = h; room = leb-true (length_in s) (length s) f; words = words-pass s n b }
