-- Four bits shifted into place fit a word, and so does their sum with a vector below `2 ^ at`.
use Prim.Native.Nat.{ℕ, ◌+◌, ◌*◌, ◌^◌, ◌≤◌, ◌<◌}
use mathlib.Core.Path.{ap}
use native.Mathlib.Omega.{arith}
use native.Mathlib.Nat.{mod-eq_of_lt, mul-le-mul}
use lib.Pow.{pow_mono}
use Rattle.vote.proofs.four.with_four.Goals as goal

placed : (four at : ℕ) → four < 16 → at ≤ 12 → four * 2 ^ at ≤ 16 * 4096
placed four at h k = let l : four ≤ 16 = omega arith in mul-le-mul l (pow_mono k)

pub overflow_add-result : goal.overflow_add-result
overflow_add-result c =
    let a = c.args in
    let p = placed a.four a.at c.requires.2 c.requires.1 in
    let q : 2 ^ a.at ≤ 4096 = pow_mono c.requires.1 in
    omega (arith, p, q)

pub returns : goal.returns
returns c =
    let a = c.args in
    let p = placed a.four a.at c.requires.2 c.requires.1 in
    let l : a.four * 2 ^ a.at < 4294967296 = omega (arith, p) in
    ap (λ (x : ℕ). a.acc + x) (mod-eq_of_lt l)
