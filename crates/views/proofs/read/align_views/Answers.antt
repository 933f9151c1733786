use Rattle.std.proofs.Common.{refl, ltb, arith}
use Rattle.words.specs.Array.{replaced}
use Rattle.words.proofs.ArrayLaws.{replaced-step}
use Rattle.views.proofs.ViewWordLaws.{kept-view, replaced-end}
use Rattle.views.proofs.read.align_views.Goals as goal

pub loop-j-init : goal.loop-j-init
unfolding replaced
loop-j-init c = refl

pub loop-j-preserved : goal.loop-j-preserved
loop-j-preserved c =
    let l = c.loop-j in
    let a = c.args in
    replaced-step _ _ _ l.invariant (kept-view (ltb l.j a.split) a.views.now l.j _ _ l.invariant c.pick.ensures)

pub returns : goal.returns
returns c = replaced-end _ _ (omega arith) c.loop-j.invariant
