use mathlib.Core.Path.{◌≡◌, refl, ap, ◌∙◌}
use native.Mathlib.Omega.{arith}
use Rattle.words.specs.Table.{updated}
use Rattle.words.proofs.TableLaws.{updated-step}
use Rattle.scanlock.specs.Axis.{lost_of}
use Rattle.scanlock.specs.Locks.{seen_axes}
use Rattle.scanlock.proofs.LockEventLaws.{not-yet-seen}
use Rattle.scanlock.proofs.events.seen_axes.Goals as goal

pub loop-i-init : goal.loop-i-init
unfolding updated
loop-i-init c = (omega arith, c.well_formed.0.1.0.1, refl)

pub loop-i-preserved : goal.loop-i-preserved
loop-i-preserved c =
    let l = c.loop-i in
    (omega arith, l.invariant.1, updated-step _ _ _ l.invariant.2 (c.seen.ensures ∙ ap (lost_of _) (not-yet-seen _ _ _ l.invariant.2)))

pub returns : goal.returns
unfolding seen_axes
returns c =
    let e : c.loop-i.i ≡ 8 = omega arith in
    rw e at c.loop-i.invariant.2
