-- A space, then a number below 100.
use Rattle.std.proofs.Common.{rules}
use Prim.Native.Nat.{◌+◌}
use mathlib.Core.List.{[], ◌∷◌}
use native.Mathlib.Omega.{arith}
use Rattle.text.proofs.NumberLaws.{decimal-places}
use Rattle.text.proofs.LineLaws.{added_then}
use Rattle.text.proofs.line.put_module.Goals as goal

pub put_number-requires : goal.put_number-requires
put_number-requires g c =
    let d = decimal-places 2 (c.args.i + 1) (omega arith) (omega arith) (omega arith) in
    (search rules, omega (arith, d, c.push.ensures.len, c.requires.1))

pub returns : goal.returns
returns g c =
    let d = decimal-places 2 (c.args.i + 1) (omega arith) (omega arith) (omega arith) in
    let e = c.put_number.ensures in
    (added_then _ (32 ∷ []) _ c.push.ensures.items e.0, omega (arith, d, e.1, c.push.ensures.len))
