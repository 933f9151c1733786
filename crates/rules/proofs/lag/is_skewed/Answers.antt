use mathlib.Core.Path.{refl}
use native.Mathlib.Omega.{arith}
use Rattle.words.specs.Count.{any}
use Rattle.words.proofs.CountLaws.{any_step}
use Rattle.rules.proofs.LagLaws.{skewed-by}
use Rattle.rules.proofs.lag.is_skewed.Goals as goal

pub loop-j-init : goal.loop-j-init
unfolding any
loop-j-init c = (omega arith, refl)

pub loop-j-preserved : goal.loop-j-preserved
loop-j-preserved c = (omega arith, any_step _ _ c.loop-j.invariant.1 refl)

pub returns : goal.returns
returns c = skewed-by _ _ _ (omega arith) c.loop-j.invariant.1
