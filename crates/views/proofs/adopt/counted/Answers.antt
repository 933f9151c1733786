use Rattle.std.proofs.Common.{◌≡◌, refl, ap, ap₂, ℕ, ◌+◌, ◌-◌, ◌≤◌, ◌||◌, arith}
use Rattle.words.specs.Bits.{pack}
use Rattle.words.specs.Count.{all as all_of}
use Rattle.words.proofs.BitLaws.{pack-step, packed_lt, pack-end}
use Rattle.words.proofs.CountLaws.{all-step, all_end}
use Rattle.views.specs.Adoption.{most_of, adoptable, adopted_from}
use Rattle.views.proofs.MajorityLaws.{ones-le, zeros_by, decided-by}
use Rattle.views.proofs.adopt.counted.Goals as goal

pub loop-j-init : goal.loop-j-init
unfolding all_of pack
loop-j-init c = (refl, refl)

pub overflow_sub-zero : goal.overflow_sub-zero
overflow_sub-zero c = ones-le _ _ _ c.present-there.ensures.0 c.ones-one.ensures.0

pub with_bit-view-requires : goal.with_bit-view-requires
with_bit-view-requires c = (packed_lt _ _ c.loop-j.invariant.1, omega arith)

pub loop-j-preserved : goal.loop-j-preserved
loop-j-preserved c =
    let a = c.args in
    let j = c.loop-j.j in
    let there = c.present-there in
    let one = c.ones-one in
    let le : one.result ≤ there.result = ones-le a.n a.views.now j there.ensures.0 one.ensures.0 in
    let split : there.result - one.result + one.result ≡ there.result = omega arith in
    let zero = zeros_by a.n a.views.now j there.ensures.0 one.ensures.0 split in (
      all-step _ _ c.loop-j.invariant.0 (ap₂ (λ (x y : ℕ). most_of a.n x || most_of a.n y) one.ensures.0 zero),
      pack-step _ _ c.loop-j.invariant.1 (ap (λ (x : ℕ). most_of a.n x) one.ensures.0) c.with_bit-view.ensures,
    )

pub returns : goal.returns
unfolding adoptable adopted_from
returns c =
    let i = c.loop-j.invariant in
    let e : c.loop-j.j ≡ c.args.n = omega arith in
    decided-by (all_end _ e i.0) (pack-end _ e i.1) c.then_some.ensures
