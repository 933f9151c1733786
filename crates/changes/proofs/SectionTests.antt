-- The test of a new word, by its place among the new words.
use mathlib.Core.Path.{◌≡◌, ap, ◌∙◌}
use mathlib.Core.Bool.{Bool, true, false, cond}
use Prim.Native.Nat.{ℕ, zero, suc, ◌+◌, ◌*◌, ◌≤◌}
use native.Mathlib.Omega.{arith}
use lib.Dec.{eqb}
use borrow.Author.Tests.{ne_eqb}
use Rattle.words.proofs.Truth.{cond-false}
use Rattle.setup.specs.Limits.{most_penalty_limit, most_reward_limit}
use Rattle.setup.specs.Check.{limit_ok}
use Rattle.changes.specs.Words.{new_count, new_module_ok, new_test}

pub first-right : (w : ℕ → ℕ) (at i : ℕ) {v : ℕ} {t : Bool} → i ≡ 0 → v ≡ w (at + 1 + i) → t ≡ limit_ok 2 most_penalty_limit v → t ≡ new_test w at i
unfolding new_test
first-right w at zero z e h =
    let k : at + 1 + 0 ≡ at + 1 = omega arith in
    h ∙ ap (limit_ok 2 most_penalty_limit) (e ∙ ap w k)
first-right w at (suc i) z e h = absurd (omega arith)

pub second-right : (w : ℕ → ℕ) (at i : ℕ) {v : ℕ} {t : Bool} → i ≡ 1 → v ≡ w (at + 1 + i) → t ≡ limit_ok 3 most_reward_limit v → t ≡ new_test w at i
unfolding new_test
second-right w at zero z e h = absurd (omega arith)
second-right w at (suc zero) z e h =
    let k : at + 1 + 1 ≡ at + 2 = omega arith in
    h ∙ ap (limit_ok 3 most_reward_limit) (e ∙ ap w k)
second-right w at (suc (suc i)) z e h = absurd (omega arith)

pub module-right : (w : ℕ → ℕ) (at i : ℕ) {u v : ℕ} {t : Bool} → (i ≡ 0 → ⊥) → (i ≡ 1 → ⊥) → u ≡ w (1 + i) → v ≡ w (at + 1 + i) → t ≡ new_module_ok u v
    → t ≡ new_test w at i
unfolding new_test
module-right w at zero a b f e h = absurd (a (omega arith))
module-right w at (suc zero) a b f e h = absurd (b (omega arith))
module-right w at (suc (suc j)) {u} {v} a b f e h =
    let k : at + 1 + suc (suc j) ≡ at + 3 + j = omega arith in
    let l : 1 + suc (suc j) ≡ 3 + j = omega arith in
    h ∙ ap (λ (x : ℕ). new_module_ok x v) (f ∙ ap w l) ∙ ap (new_module_ok (w (3 + j))) (e ∙ ap w k)

-- room for the new words, where there are some
pub room-new : (w : ℕ → ℕ) (at n : ℕ) {left k : ℕ} → left ≡ w at → (left ≡ 0 → ⊥) → (at + 1 + new_count n (w at)) * 4 ≤ k → (at + 3 + n) * 4 ≤ k
room-new w at n e z h =
    let c : new_count n (w at) ≡ n + 2 = cond-false _ _ (ne_eqb (w at) 0 (λ y. z (e ∙ y))) in
    omega (arith, c)

-- there are at most as many as where there are some
pub new-most : (n left : ℕ) → new_count n left ≤ n + 2
new-most n left = go (eqb left 0)
  where
    go : (b : Bool) → cond b 0 (n + 2) ≤ n + 2
    go true = omega arith
    go false = omega arith
