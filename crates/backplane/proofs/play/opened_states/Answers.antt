use Rattle.std.proofs.Common.{◌≡◌, ap, arith, replicate}
use Rattle.words.specs.Table.{updated}
use Rattle.words.proofs.TableLaws.{updated-step}
use Rattle.presence.specs.declared.State.{State}
use Rattle.backplane.specs.Play.{opened_states}
use Rattle.backplane.proofs.PlayLaws.{opened-or}
use Rattle.backplane.proofs.play.opened_states.Goals as goal

pub loop-i-init : goal.loop-i-init
unfolding updated
loop-i-init c = ap (λ (s : State). replicate 16 s) (opened-or c.open.result c.unwrap_or-states.ensures c.blank.ensures c.open.ensures)

pub loop-i-preserved : goal.loop-i-preserved
loop-i-preserved c =
    updated-step _ _ _ c.loop-i.invariant (opened-or c.open-in-loop-i.result c.unwrap_or.ensures c.blank-in-loop-i.ensures c.open-in-loop-i.ensures)

pub returns : goal.returns
unfolding opened_states
returns c =
    let e : c.loop-i.i ≡ c.args.setup.n = omega arith in
    rw e at c.loop-i.invariant
