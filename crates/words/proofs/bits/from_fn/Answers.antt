use Rattle.std.proofs.Common.{◌≡◌, add-one, refl, arith}
use Rattle.words.specs.Bits.{pack}
use Rattle.words.proofs.BitLaws.{add-lt, pack-step, pack-end}
use Rattle.words.proofs.bits.from_fn.Goals as goal

pub loop-j-init : goal.loop-j-init
unfolding pack
loop-j-init g c = (omega arith, λ f h. refl)

pub with_bit-acc-requires : goal.with_bit-acc-requires
with_bit-acc-requires g c = (c.loop-j.invariant.0, omega (arith, c.loop-j-test.true))

pub loop-j-preserved : goal.loop-j-preserved
loop-j-preserved g c = (rw (c.with_bit-acc.ensures, add-one) (add-lt c.bit.result c.loop-j.acc c.loop-j.j c.loop-j.invariant.0), λ f h. pack-step c.loop-j.j f (c.loop-j.invariant.1 f h) (h c.loop-j.j _ c.loop-j-test.true c.bit.ensures) c.with_bit-acc.ensures)

pub returns : goal.returns
returns g c = λ f h.
    let e : c.loop-j.j ≡ c.args.n = omega arith in
    pack-end f e (c.loop-j.invariant.1 f h)
