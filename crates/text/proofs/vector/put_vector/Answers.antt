use mathlib.Core.Path.{sym}
use mathlib.Core.List.{append-nil}
use native.Mathlib.Omega.{arith}
use Rattle.text.specs.Text.{vector}
use Rattle.text.proofs.NumberLaws.{vector_step}
use Rattle.text.proofs.vector.put_vector.Goals as goal

pub loop-j-init : goal.loop-j-init
unfolding vector
loop-j-init g c = (omega arith, sym (append-nil _), omega arith)

pub loop-j-preserved : goal.loop-j-preserved
loop-j-preserved g c =
    let l = c.loop-j in
    (omega arith, vector_step _ c.args.v l.j l.invariant.1 c.digit.ensures c.push.ensures.items, omega (arith, l.invariant.2, c.push.ensures.len))
