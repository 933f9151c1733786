use mathlib.Core.Path.{refl}
use native.Mathlib.Omega.{arith}
use Rattle.words.specs.Count.{count}
use Rattle.words.proofs.CountLaws.{count-step}
use Rattle.vote.specs.Lanes.{lane_of, ones_on}
use Rattle.vote.proofs.LaneLaws.{lane-step, tally-by}
use Rattle.vote.proofs.lanes.counted.Goals as goal

pub loop-l-init : goal.loop-l-init
unfolding lane_of ones_on count
loop-l-init c = (omega arith, omega arith, omega arith, omega arith, omega arith, omega arith, refl, refl, refl, refl, refl)

pub loop-l-preserved : goal.loop-l-preserved
loop-l-preserved c =
    let i = c.loop-l.invariant in
    let l = c.loop-l.l in
    let voters = c.args.voters in
    let rows = c.args.rows.now in
    let b = c.ballot-row.ensures in (
      omega arith,
      omega arith,
      omega arith,
      omega arith,
      omega arith,
      omega arith,
      lane-step 0 l voters rows (omega arith) i.6 b c.lane-a.ensures.0,
      lane-step 1 l voters rows (omega arith) i.7 b c.lane-b.ensures.0,
      lane-step 2 l voters rows (omega arith) i.8 b c.lane-c.ensures.0,
      lane-step 3 l voters rows (omega arith) i.9 b c.lane-d.ensures.0,
      count-step _ _ i.10 c.bit_at.ensures c.flag-present.ensures.0,
    )

pub returns : goal.returns
returns c =
    let i = c.loop-l.invariant in
    tally-by _ _ _ _ (omega arith) i.6 i.7 i.8 i.9 i.10
