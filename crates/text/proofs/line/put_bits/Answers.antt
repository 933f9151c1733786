-- A space, then the bits.
use mathlib.Core.List.{[], ◌∷◌}
use native.Mathlib.Omega.{arith}
use Rattle.text.proofs.LineLaws.{added_then}
use Rattle.text.proofs.line.put_bits.Goals as goal

pub returns : goal.returns
returns g c =
    let e = c.put_vector.ensures in
    (added_then _ (32 ∷ []) _ c.push.ensures.items e.0, omega (arith, e.1, c.push.ensures.len, c.requires.0))
