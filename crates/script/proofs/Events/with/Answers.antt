use mathlib.Core.Path.{refl, ◌∙◌}
use native.Mathlib.Omega.{arith}
use Rattle.words.specs.Table.{updated}
use Rattle.words.proofs.TableLaws.{updated-step}
use Rattle.script.proofs.EventLaws.{with-by}
use Rattle.script.proofs.Events.with.Goals as goal

pub loop-x-init : goal.loop-x-init
unfolding updated
loop-x-init c = (omega arith, refl, refl, refl)

pub loop-x-preserved : goal.loop-x-preserved
loop-x-preserved c = (
  omega arith,
  updated-step _ _ _ c.loop-x.invariant.1 (c.pick.ensures ∙ rw c.concerns-here.ensures),
  updated-step _ _ _ c.loop-x.invariant.2 (c.pick-in-loop-x.ensures ∙ rw c.concerns-here.ensures),
  updated-step _ _ _ c.loop-x.invariant.3 (c.pick-in-loop-x-2.ensures ∙ rw c.concerns-here.ensures),
)

pub returns : goal.returns
returns c = with-by _ _ _ _ (omega arith) c.loop-x.invariant.1 c.loop-x.invariant.2 c.loop-x.invariant.3
