-- The code and the definition make the same test.
use Prim.Native.Nat.{◌-◌}
use mathlib.Core.Path.{◌≡◌, refl}
use native.Mathlib.Omega.{arith}
use Rattle.scanlock.specs.Axis.{on_axis}
use Rattle.scanlock.proofs.LockEventLaws.{yes, no, in_bounds}
use Rattle.scanlock.proofs.events.index.Goals as goal

pub returns-then-axis-clause-is : goal.returns-then-axis-clause-is
unfolding on_axis
returns-then-axis-clause-is c = yes _ c.if-axis.true refl

pub returns-then-axis-clause-in_range : goal.returns-then-axis-clause-in_range
returns-then-axis-clause-in_range c = λ i e.
    let k : c.args.axis - 1 ≡ i = cc in
    omega (arith, in_bounds 1 8 c.args.axis c.if-axis.true)

pub returns-clause-is : goal.returns-clause-is
unfolding on_axis
returns-clause-is c = no _ c.if-axis.false refl
