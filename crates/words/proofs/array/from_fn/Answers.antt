use Rattle.std.proofs.Common.{◌≡◌, arith}
use Rattle.words.proofs.ArrayLaws.{array-none, array-step, array-end}
use Rattle.words.proofs.array.from_fn.Goals as goal

pub loop-j-init : goal.loop-j-init
loop-j-init g c = λ f h. array-none f

pub loop-j-preserved : goal.loop-j-preserved
loop-j-preserved g c = λ f h. array-step c.loop-j.j f (c.loop-j.invariant f h) (h c.loop-j.j _ c.loop-j-test.true c.entry.ensures)

pub returns : goal.returns
returns g c = λ f h.
    let e : c.loop-j.j ≡ c.args.n = omega arith in
    array-end f e (c.loop-j.invariant f h)
