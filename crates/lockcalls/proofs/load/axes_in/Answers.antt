use mathlib.Core.Path.{◌≡◌, ap, ◌∙◌}
use native.Mathlib.Omega.{arith}
use Rattle.words.specs.Table.{updated}
use Rattle.words.proofs.TableLaws.{updated-step}
use Rattle.scanlock.specs.Locks.{blank_locks}
use Rattle.scanlock.specs.declared.Locks.{Locks}
use Rattle.lockcalls.specs.LockImage.{axis_in, axes_in}
use Rattle.lockcalls.proofs.load.axes_in.Goals as goal

pub loop-i-init : goal.loop-i-init
unfolding updated blank_locks
loop-i-init c = (omega arith, ap (λ (x : Locks). x.axes) c.blank.ensures)

pub loop-i-preserved : goal.loop-i-preserved
loop-i-preserved c =
    let l = c.loop-i in
    (omega arith, updated-step _ _ _ l.invariant.1 (c.axis_in.ensures ∙ ap axis_in c.word_at.ensures))

pub returns : goal.returns
unfolding axes_in
returns c =
    let e : c.loop-i.i ≡ 8 = omega arith in
    rw e at c.loop-i.invariant.1
