-- A change that passes numbers 23 and 24: the same frame, nothing pending, and a lead in range.
use mathlib.Core.Path.{◌≡◌, refl}
use mathlib.Core.Bool.{true}
use mathlib.Core.List.{[], ◌∷◌}
use Prim.Native.Nat.{ℕ, ◌≤◌}
use native.Mathlib.Omega.{arith}
use lib.Dec.{eqb}
use borrow.Author.Tests.{eqb-true}
use Rattle.words.specs.Verdict.{single}
use Rattle.words.proofs.Truth.{and_l, and_r}
use Rattle.words.proofs.VerdictLaws.{Passed, numbered, tests-pass, between_is}
use Rattle.setup.specs.declared.Setup.{Setup}
use Rattle.changes.specs.Frame.{same_frame, may_follow, frame_verdict}
use Rattle.changes.specs.declared.Pending.{Pending}

pub frame-pass : (s : Setup) (c : Pending) (new : Setup) (lead : ℕ) → (frame_verdict s c new lead).number ≡ 0
    → (same_frame s new ≡ true) × (may_follow c lead ≡ true)
unfolding frame_verdict Passed numbered
frame-pass s c new lead e =
    let (a, (b, _)) = tests-pass (single (same_frame s new) 23 0 ∷ single (may_follow c lead) 24 0 ∷ []) refl e in
    (a 0 (omega arith), b 0 (omega arith))

pub follows-none : (c : Pending) (lead : ℕ) → may_follow c lead ≡ true → c.left ≡ 0
unfolding may_follow
follows-none c lead t = eqb-true c.left 0 (and_l (eqb c.left 0) _ t)

pub follows-lead : (c : Pending) (lead : ℕ) → may_follow c lead ≡ true → (1 ≤ lead) × (lead ≤ 1000)
unfolding may_follow
follows-lead c lead t = between_is 1 1000 lead (and_r (eqb c.left 0) _ t)
