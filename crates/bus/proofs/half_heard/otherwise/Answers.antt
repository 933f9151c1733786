use Prim.Native.Nat.{◌+◌, ◌*◌}
use mathlib.Core.Path.{◌≡◌, refl, ap}
use mathlib.Core.Bool.{Bool, not, ◌&&◌}
use native.Mathlib.Omega.{arith}
use lib.Dec.{eqb}
use lib.ListN.{get_or}
use Rattle.words.specs.Count.{any}
use Rattle.words.proofs.CountLaws.{any_step}
use Rattle.bus.specs.Heard.{otherwise}
use Rattle.bus.proofs.half_heard.otherwise.Goals as goal

pub loop-i-init : goal.loop-i-init
unfolding any
loop-i-init c = (omega arith, refl)

pub loop-i-preserved : goal.loop-i-preserved
loop-i-preserved c =
    let l = c.loop-i in
    let a = c.args in (
      omega arith,
      any_step l.i _ l.invariant.1 (ap (λ (b : Bool). not b && not (eqb (get_or a.heard.now (l.i * 16 + a.j) 0) a.w)) c.bit_at.ensures),
    )

pub returns : goal.returns
unfolding Rattle.bus.specs.Heard.otherwise
returns c =
    let e : c.loop-i.i ≡ c.args.n = omega arith in
    rw e at c.loop-i.invariant.1
