-- A module above 32 has no bit in a word.
use Prim.Native.Nat.{◌^◌, ◌<◌}
use native.Mathlib.Omega.{arith}
use Rattle.scanlock.proofs.LockEventLaws.{in_bounds, present-bit, present-none}
use Rattle.scanlock.proofs.on_axis.is_present.Goals as goal

pub overflow_sub-by : goal.overflow_sub-by
overflow_sub-by c = omega (arith, in_bounds 1 32 c.args.by c.if-by.true)

pub bit_at-requires : goal.bit_at-requires
bit_at-requires c = omega (arith, in_bounds 1 32 c.args.by c.if-by.true)

pub returns-then-by : goal.returns-then-by
returns-then-by c = present-bit _ _ c.if-by.true c.bit_at.ensures

pub returns : goal.returns
returns c =
    let h : c.args.view < 2 ^ 32 = omega arith in
    present-none _ _ h c.if-by.false
