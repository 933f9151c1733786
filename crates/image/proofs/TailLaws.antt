-- What holds of bytes that pass the check of a saved state.
use Rattle.std.proofs.Common.{◌≡◌, ℕ, ◌<◌, Bool, true, false, eqb, List, ◌++◌, length, sym, ap, ◌∙◌, arith, eq-eqb, eqb-true}
use Rattle.words.specs.Word.{word_at}
use Rattle.words.specs.Verdict.{accepted, and_then, first_refusal}
use Rattle.words.specs.Verdict.{Verdict}
use Rattle.words.proofs.VerdictLaws.{numbered, Passed, tests-pass, tests-ok, tests-join, numbers-join, and-then-pass, and-then-next, passed-join, passed-split}
use Rattle.setup.specs.Layout.{head_at, front_words}
use Rattle.setup.specs.Setup.{size_in, partitionable_in, fades_in}
use Rattle.setup.specs.Check.{word_tests, check_head, check_words}
use Rattle.setup.proofs.SetupCheckLaws.{HeadFits, WordsFit, word-numbers, head-pass, head_ok_lem, words-pass, words-ok}
use Rattle.changes.specs.Words.{change_tests}
use Rattle.views.specs.Section.{view_tests}
use Rattle.views.proofs.ViewTestLaws.{views-numbered}
use Rattle.image.specs.Layout.{own_at, latest_at, earlier_at, left_at, views_at}
use Rattle.image.specs.Words.{view_in, own_number_ok, own_ok, syndrome_ok}
use Rattle.image.specs.Rows.{row_test}
use Rattle.image.specs.Counters.{counter_tests}
use Rattle.image.specs.Check.{tail_tests, image_tests, image_length_in, check_tail, check_image}

-- ---- numbers 7 and 8

pub numbers : (fades : Bool) (w : ℕ → ℕ) (n : ℕ) → numbered (tail_tests fades w n) ≡ true
unfolding numbered
numbers true w n = views-numbered (partitionable_in (w head_at)) w n _ _
numbers false w n = views-numbered (partitionable_in (w head_at)) w n _ _

pub record TailFits (fades : Bool) (w : ℕ → ℕ) (n : ℕ) : Type 0 where
  pub number : own_number_ok n (w (own_at (front_words fades) n)) ≡ true
  pub own : own_ok n (w (own_at (front_words fades) n)) ≡ true
  pub rows : (j : ℕ) → j < n → row_test w (front_words fades) n j ≡ true
  pub latest : syndrome_ok n (w (latest_at (front_words fades) n)) ≡ true
  pub earlier : syndrome_ok n (w (earlier_at (front_words fades) n)) ≡ true
  pub counters : Passed (counter_tests fades w n)
  pub change : Passed (change_tests fades w n (left_at (front_words fades) n))
  pub views : Passed (view_tests (partitionable_in (w head_at)) w n (view_in (w (own_at (front_words fades) n))) (views_at (front_words fades) n (w (left_at (front_words fades) n))))

pub tail-pass : (fades : Bool) (w : ℕ → ℕ) (n : ℕ) → (check_tail fades w n).number ≡ 0 → TailFits fades w n
unfolding check_tail Passed
tail-pass fades w n e =
    let (number, (own, (rows, (latest, (earlier, rest))))) = tests-pass (tail_tests fades w n) (numbers fades w n) e in
    let changing = change_tests fades w n (left_at (front_words fades) n) in
    let viewing = view_tests (partitionable_in (w head_at)) w n (view_in (w (own_at (front_words fades) n))) (views_at (front_words fades) n (w (left_at (front_words fades) n))) in
    let (counters, later) = passed-split (counter_tests fades w n) (changing ++ viewing) rest in
    let (change, views) = passed-split changing viewing later in
    record {
      number = number 0 (omega arith);
      own = own 0 (omega arith);
      rows = rows;
      latest = latest 0 (omega arith);
      earlier = earlier 0 (omega arith);
      counters = counters;
      change = change;
      views = views;
    }

pub tail-ok : (fades : Bool) (w : ℕ → ℕ) (n : ℕ) → TailFits fades w n → check_tail fades w n ≡ accepted
unfolding check_tail Passed
tail-ok fades w n f =
    let changing = change_tests fades w n (left_at (front_words fades) n) in
    let viewing = view_tests (partitionable_in (w head_at)) w n (view_in (w (own_at (front_words fades) n))) (views_at (front_words fades) n (w (left_at (front_words fades) n))) in
    let later = passed-join (counter_tests fades w n) (changing ++ viewing) f.counters (passed-join changing viewing f.change f.views) in
    tests-ok (tail_tests fades w n) (λ _ _. f.number, (λ _ _. f.own, (f.rows, (λ _ _. f.latest, (λ _ _. f.earlier, later)))))

-- ---- all of an image

pub record ImageFits (s : List ℕ) : Type 0 where
  pub front : HeadFits s
  pub size : length s ≡ image_length_in s
  pub words : WordsFit s (size_in (word_at s 0))
  pub tail : TailFits (fades_in (word_at s)) (word_at s) (size_in (word_at s 0))

pub image-numbers : (s : List ℕ) (n : ℕ) → numbered (image_tests s n) ≡ true
unfolding numbered
image-numbers s n = numbers-join (word_tests s n) _ (word-numbers s n) (numbers (fades_in (word_at s)) (word_at s) n)

-- the setup's words, then the others
pub tests-parts : (s : List ℕ) (n : ℕ) → first_refusal (image_tests s n) ≡ and_then (check_words s n) (check_tail (fades_in (word_at s)) (word_at s) n)
unfolding check_words check_tail
tests-parts s n = tests-join (word_tests s n) _ _

pub image-pass : (s : List ℕ) → (check_image s).number ≡ 0 → ImageFits s
unfolding check_image
image-pass s e =
    let n = size_in (word_at s 0) in
    let (a, b) = and-then-pass (check_head s (eqb (length s) (image_length_in s))) _ e in
    let (h, f) = head-pass s (eqb (length s) (image_length_in s)) a in
    let (c, d) = and-then-pass (check_words s n) (check_tail (fades_in (word_at s)) (word_at s) n) (ap (λ (v : Verdict). v.number) (sym (tests-parts s n)) ∙ b) in
    record { front = h; size = eqb-true (length s) (image_length_in s) f; words = words-pass s n c; tail = tail-pass (fades_in (word_at s)) (word_at s) n d }

pub image-ok : (s : List ℕ) → ImageFits s → check_image s ≡ accepted
unfolding check_image
image-ok s f =
    let n = size_in (word_at s 0) in
    let h : check_head s (eqb (length s) (image_length_in s)) ≡ accepted = head_ok_lem s _ f.front (eq-eqb _ _ f.size) in
    and-then-next (check_head s (eqb (length s) (image_length_in s))) _ (ap (λ (v : Verdict). v.number) h)
    ∙ tests-parts s n
    ∙ and-then-next (check_words s n) _ (ap (λ (v : Verdict). v.number) (words-ok s n f.words))
    ∙ tail-ok (fades_in (word_at s)) (word_at s) n f.tail

-- number 0 carries index 0
pub image-zero : (s : List ℕ) → (check_image s).number ≡ 0 → check_image s ≡ accepted
image-zero s e = image-ok s (image-pass s e)
