-- The views at the end of a saved state: their room, and their tests as the code asks them, where there are some and where there are none.
use Rattle.std.proofs.Common.{◌≡◌, ℕ, ◌+◌, ◌*◌, ◌^◌, ◌<◌, ◌≤◌, Bool, true, false, sym, ap, ◌∙◌, arith}
use Rattle.words.specs.Verdict.{accepted, first_refusal, then_tests, all_right}
use Rattle.words.specs.Verdict.{Verdict}
use Rattle.setup.specs.Layout.{head_at, front_words}
use Rattle.setup.specs.Setup.{partitionable_in}
use Rattle.changes.proofs.SectionTests.{new-most}
use Rattle.views.specs.Section.{view_tests}
use Rattle.image.specs.Layout.{left_at, views_at, image_length}

-- ---- their room

pub views-small : {at : ℕ} (front n left : ℕ) → front ≤ 6 → n ≤ 16 → at ≡ views_at front n left → at < 2 ^ 16
views-small front n left h l e = omega (arith, e, new-most n left)

pub views-room : {b : Bool} {at k : ℕ} (front n left : ℕ) → b ≡ true → at ≡ views_at front n left → k ≡ image_length front n left b → (at + n + 4) * 4 ≤ k
views-room {at = at} {k = k} front n left t e l =
    let whole : k ≡ image_length front n left true = l ∙ ap (image_length front n left) t in
    omega (arith, e, whole)

-- the length, by the number of words before those of the modules, the rounds left and the head bit as they were found
pub length_found : {front at left k : ℕ} {b : Bool} (fades : Bool) (n : ℕ) (w : ℕ → ℕ) → front ≡ front_words fades → at ≡ left_at front n → left ≡ w at
    → b ≡ partitionable_in (w head_at) → k ≡ image_length (front_words fades) n (w (left_at (front_words fades) n)) (partitionable_in (w head_at))
    → k ≡ image_length front n left b
length_found fades n w f a l t h = rw (l, a, f, t) h

-- ---- their tests, as an answer or as a truth; x and y are the view and the place as they were found

module _ {b : Bool} (w : ℕ → ℕ) (n view at : ℕ) where
  pub views-none : b ≡ false → accepted ≡ first_refusal (view_tests b w n view at)
  unfolding then_tests
  views-none f = ap (λ (a : Bool). first_refusal (view_tests a w n view at)) (sym f)

  pub views-tested : {r : Verdict} {x y : ℕ} → b ≡ true → x ≡ view → y ≡ at → r ≡ first_refusal (view_tests true w n x y) → r ≡ first_refusal (view_tests b w n view at)
  views-tested t p q e = e ∙ (λ i. first_refusal (view_tests (sym t i) w n (p i) (q i)))

  pub none-wrong : b ≡ false → true ≡ all_right (view_tests b w n view at)
  unfolding all_right
  none-wrong f = ap (λ (a : Bool). all_right (view_tests a w n view at)) (sym f)

  pub some_right : {r : Bool} {x y : ℕ} → b ≡ true → x ≡ view → y ≡ at → r ≡ all_right (view_tests true w n x y) → r ≡ all_right (view_tests b w n view at)
  some_right t p q e = e ∙ (λ i. all_right (view_tests (sym t i) w n (p i) (q i)))
