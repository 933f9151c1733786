use Rattle.std.proofs.Common.{refl, arith}
use Rattle.words.specs.Count.{count}
use Rattle.words.proofs.CountLaws.{count-step}
use Rattle.views.proofs.MajorityLaws.{count-end}
use Rattle.views.proofs.adopt.senders.Goals as goal

pub loop-l-init : goal.loop-l-init
unfolding count
loop-l-init g c = (omega arith, λ p h. refl)

pub overflow_add-many : goal.overflow_add-many
overflow_add-many g c = omega (arith, c.loop-l.invariant.0, c.flag-many.ensures.1)

pub loop-l-preserved : goal.loop-l-preserved
loop-l-preserved g c =
    let l = c.loop-l in
    (omega (arith, l.invariant.0, c.flag-many.ensures.1), λ p h. count-step l.l p (l.invariant.1 p h) (h l.l _ (omega arith) c.passes.ensures) c.flag-many.ensures.0)

pub returns : goal.returns
returns g c = (omega (arith, c.loop-l.invariant.0), λ p h. count-end p (omega arith) (c.loop-l.invariant.1 p h))
