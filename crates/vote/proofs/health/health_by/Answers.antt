use Prim.Native.Nat.{ℕ, ◌+◌, ◌*◌, ◌%◌, ◌^◌}
use mathlib.Core.Path.{◌≡◌, refl, ap, ap₂, ◌∙◌}
use native.Mathlib.Omega.{arith}
use lib.Pow.{pow_pos}
use Rattle.words.specs.Bits.{pack}
use Rattle.words.proofs.BitLaws.{pack-lt}
use Rattle.vote.specs.Lanes.{decided_by}
use Rattle.vote.proofs.FourLaws.{countable, health-cut}
use Rattle.words.proofs.BitLaws.{pack-add}
use Rattle.vote.proofs.health.health_by.Goals as goal

pub loop-q-init : goal.loop-q-init
unfolding pack
loop-q-init c = (omega arith, refl)

pub four_from-four-requires : goal.four_from-four-requires
four_from-four-requires c =
    let w = c.counted-t in
    let q = c.loop-q.q in (
      c.requires.0,
      omega arith,
      omega arith,
      λ j h. countable _ _ _ c.requires.1 c.requires.2 w.result w.ensures (q * 4 + j) (omega arith),
    )

pub with_four-acc-requires : goal.with_four-acc-requires
with_four-acc-requires c =
    (rw c.loop-q.invariant.1 (pack-lt _ _), omega arith, rw c.four_from-four.ensures (pack-lt 4 _))

pub loop-q-preserved : goal.loop-q-preserved
loop-q-preserved c =
    let l = c.loop-q in
    let q = l.q in
    let s = c.args in
    let t = c.counted-t.result in
    let f = decided_by t.present t.ones s.voters s.own in
    let e : q * 4 + 4 ≡ (q + 1) * 4 = omega arith in (
      omega arith,
      c.with_four-acc.ensures
          ∙ ap₂ (λ (x y : ℕ). x + y * 2 ^ (q * 4)) l.invariant.1 c.four_from-four.ensures
          ∙ pack-add (q * 4) 4 f
          ∙ ap (λ (m : ℕ). pack m f) e,
    )

pub nonzero_rem-result : goal.nonzero_rem-result
nonzero_rem-result c = omega (arith, c.power.ensures, pow_pos c.args.n)

pub returns : goal.returns
returns c =
    let w = c.counted-t in
    let l = c.loop-q in
    ap₂ (λ (x y : ℕ). x % y) l.invariant.1 c.power.ensures
    ∙ health-cut _ _ _ c.requires.1 c.requires.2 w.result w.ensures c.args.own (l.q * 4) (omega arith)
