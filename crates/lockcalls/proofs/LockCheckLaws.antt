-- What an accepted image is: every test of its check holds.
use Rattle.std.proofs.Common.{◌≡◌, ℕ, ◌+◌, ◌%◌, ◌^◌, ◌<◌, Bool, true, not, ◌&&◌, eqb, List, length, refl, arith, eq-eqb, eqb-true}
use Rattle.words.specs.Word.{word_at}
use Rattle.words.specs.Verdict.{accepted}
use Rattle.words.proofs.VerdictLaws.{Passed, numbered, tests-pass, tests-ok}
use Rattle.setup.specs.Check.{whole}
use Rattle.scanlock.specs.SoundLocks.{axis_fits}
use Rattle.scanlock.specs.declared.Axis.{Axis}
use Rattle.lockcalls.specs.LockImage.{lock_head_ok, axis_word, axis_in, axis_ok, lock_tests, check_lock_image}

-- a word of an axis
pub axis-tested : (view w : ℕ) {x : Axis} {v : ℕ} {b : Bool} → x ≡ axis_in w → v ≡ axis_word x → b ≡ axis_fits view x
    → eqb v w && b ≡ axis_ok view w
unfolding axis_ok
axis-tested view w e h k = rw (k, h, e)

pub record Good (s : List ℕ) : Type 0 where
  pub head : lock_head_ok (word_at s 0) ≡ true
  pub nine : length s ≡ 36
  pub axes : (i : ℕ) → i < 8 → axis_ok (word_at s 0 % 2 ^ 16) (word_at s (i + 1)) ≡ true

numbers : (s : List ℕ) → numbered (lock_tests s) ≡ true
unfolding numbered
numbers s = refl

pub image-good : (s : List ℕ) → (check_lock_image s).number ≡ 0 → Good s
unfolding check_lock_image Passed
image-good s e =
    let (w, (h, (l, (a, _)))) = tests-pass (lock_tests s) (numbers s) e in
    record { head = h 0 (omega arith); nine = eqb-true _ 36 (l 0 (omega arith)); axes = a }

pub good-check : (s : List ℕ) → Good s → check_lock_image s ≡ accepted
unfolding check_lock_image Passed whole
good-check s g =
    let t : not (eqb (length s) 0) && eqb (length s % 4) 0 ≡ true = rw g.nine refl in
    tests-ok (lock_tests s) (λ _ _. t, (λ _ _. g.head, (λ _ _. eq-eqb _ 36 g.nine, (g.axes, tt))))
