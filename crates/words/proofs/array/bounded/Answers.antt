use Rattle.std.proofs.Common.{◌≡◌, leb, refl, ap, arith}
use Rattle.words.specs.Count.{all}
use Rattle.words.specs.Array.{bounded}
use Rattle.words.proofs.CountLaws.{all-step}
use Rattle.words.proofs.array.bounded.Goals as goal

pub loop-j-init : goal.loop-j-init
unfolding all
loop-j-init c = (omega arith, refl)

pub loop-j-preserved : goal.loop-j-preserved
loop-j-preserved c =
    let l = c.loop-j in
    (omega arith, all-step _ _ l.invariant.1 (ap (leb _) c.pick.ensures))

pub returns : goal.returns
unfolding bounded
returns c =
    let e : c.loop-j.j ≡ 16 = omega arith in
    cc
