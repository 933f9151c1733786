use Rattle.std.proofs.Common.{◌≡◌, refl, ap, arith}
use Rattle.words.specs.Array.{replaced}
use Rattle.words.proofs.ArrayLaws.{replaced-step}
use Rattle.setup.specs.Setup.{criticality_in}
use Rattle.changes.proofs.AdjustedArrays.{replaced-all}
use Rattle.changes.proofs.lent.load_criticality.Goals as goal

pub loop-j-init : goal.loop-j-init
unfolding replaced
loop-j-init c = refl

pub loop-j-preserved : goal.loop-j-preserved
loop-j-preserved c = replaced-step _ _ _ c.loop-j.invariant (ap criticality_in c.word_at.ensures)

pub returns : goal.returns
returns c =
    let e : c.loop-j.j ≡ c.args.n = omega arith in
    replaced-all c.args.n _ c.args.criticality.now c.requires.0 e c.requires.3 c.loop-j.invariant
