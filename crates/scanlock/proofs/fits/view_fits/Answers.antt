-- Every view is below 2 to the power of 32 or more.
use Prim.Native.Nat.{◌^◌, ◌<◌}
use mathlib.Core.Path.{ap}
use native.Mathlib.Omega.{arith}
use lib.Dec.{ltb}
use Rattle.scanlock.proofs.LockEventLaws.{every-view-fits}
use Rattle.scanlock.proofs.fits.view_fits.Goals as goal

pub returns-then-n-lt32 : goal.returns-then-n-lt32
returns-then-n-lt32 c = ap (ltb _) c.power.ensures

pub returns : goal.returns
returns c =
    let h : c.args.view < 2 ^ 32 = omega arith in
    every-view-fits _ _ h c.if-n-lt32.false
