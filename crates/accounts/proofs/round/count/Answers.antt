use Prim.Native.Nat.{◌+◌, ◌*◌, ◌/◌, ◌<◌}
use mathlib.Core.Path.{◌≡◌, refl, ap, sym, subst}
use native.Mathlib.Omega.{arith}
use lib.Pow.{pow_pos}
use lib.ListN.{get_or}
use Rattle.words.specs.Bits.{pack}
use Rattle.words.specs.Array.{replaced}
use Rattle.words.proofs.BitLaws.{pack-step, packed_lt}
use Rattle.words.proofs.ArrayLaws.{replaced-step}
use Rattle.accounts.specs.declared.Account.{Account}
use Rattle.accounts.specs.Lent.{counted_at}
use Rattle.accounts.specs.Range.{InRange}
use Rattle.accounts.proofs.CountedLaws.{ahead, account-read, counted-by, all-range, counted-all}
use Rattle.accounts.proofs.round.count.Goals as goal

pub loop-j-init : goal.loop-j-init
unfolding pack replaced
loop-j-init c = (omega arith, refl, refl, refl, refl)

pub accounted-next-requires : goal.accounted-next-requires
accounted-next-requires c =
    let l = c.loop-j in
    let a = c.args in
    let f = c.requires in
    let m : l.j < 16 = omega arith in
    subst (λ (x : Account). InRange a.p a.q (get_or a.criticality.now l.j 0) x)
    (sym (account-read a.p a.penalty.now a.reward.now a.returns.now l.j
    (ahead _ l.j _ l.invariant.2) (ahead _ l.j _ l.invariant.3) (ahead _ l.j _ l.invariant.4)))
    (all-range a.n a.p a.r a.q a.health a.criticality.now a.penalty.now a.reward.now a.returns.now
    f.n_bound.1 f.filled.0 f.filled.1 f.filled.2 f.filled.3 f.by_index l.j m)

pub with_bit-view-requires : goal.with_bit-view-requires
with_bit-view-requires c = (packed_lt _ _ c.loop-j.invariant.1, omega arith)

pub loop-j-preserved : goal.loop-j-preserved
loop-j-preserved c =
    let l = c.loop-j in
    let a = c.args in
    let q : c.accounted-next.result ≡ counted_at a.p a.r a.q a.health a.criticality.now a.penalty.now a.reward.now a.returns.now l.j =
    counted-by a.p a.penalty.now a.reward.now a.returns.now a.r a.q a.health a.criticality.now l.j
    (ahead _ l.j _ l.invariant.2) (ahead _ l.j _ l.invariant.3) (ahead _ l.j _ l.invariant.4) c.bit_at-healthy.ensures c.accounted-next.ensures
    in (
      omega arith,
      pack-step _ _ l.invariant.1 (ap (λ (x : Account). x.present) q) c.with_bit-view.ensures,
      replaced-step _ _ _ l.invariant.2 (ap (λ (x : Account). x.penalty) q),
      replaced-step _ _ _ l.invariant.3 (ap (λ (x : Account). x.reward) q),
      replaced-step _ _ _ l.invariant.4 (ap (λ (x : Account). x.returns) q),
    )

pub nonzero_rem-result : goal.nonzero_rem-result
nonzero_rem-result c = omega (arith, c.power.ensures, pow_pos c.args.n)

pub returns : goal.returns
returns c =
    let a = c.args in
    let l = c.loop-j in
    let f = c.requires in
    let e : l.j ≡ (a.n + 3) / 4 * 4 = omega arith in
    counted-all a.n a.p a.r a.q a.health a.criticality.now a.penalty.now a.reward.now a.returns.now
    f.n_bound.1 f.filled.0 f.filled.1 f.filled.2 f.filled.3 l.j (omega arith) (omega arith) c.power.ensures
    l.invariant.1 l.invariant.2 l.invariant.3 l.invariant.4
