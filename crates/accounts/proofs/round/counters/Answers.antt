use mathlib.Core.Path.{◌≡◌, refl, ap, sym, subst}
use native.Mathlib.Omega.{arith}
use Rattle.words.specs.Bits.{pack}
use Rattle.words.specs.Array.{array}
use Rattle.words.proofs.BitLaws.{pack-step, packed_lt}
use Rattle.words.proofs.ArrayLaws.{array-step}
use Rattle.doubles.proofs.DoubleArrayLaws.{doubles-start, doubles-step}
use Rattle.accounts.specs.declared.Account.{Account}
use lib.ListN.{get_or}
use Rattle.accounts.specs.Range.{AccountRange}
use Rattle.accounts.specs.Round.{accounted_at}
use Rattle.accounts.proofs.CounterLoopLaws.{accounted-by, counters-by}
use Rattle.accounts.proofs.round.counters.Goals as goal

pub loop-j-init : goal.loop-j-init
unfolding pack array
loop-j-init c = (omega arith, refl, refl, refl, doubles-start _, refl)

pub next-next-requires : goal.next-next-requires
next-next-requires c =
    let s = c.args.setup in
    subst (λ (a : Account). AccountRange s.limits s.q (get_or s.criticality c.loop-j.j 0) a) (sym c.account-was.ensures)
    (c.requires.by_index c.loop-j.j c.loop-j-test.true)

pub with_bit-view-requires : goal.with_bit-view-requires
with_bit-view-requires c = (packed_lt _ _ c.loop-j.invariant.1, omega arith)

pub loop-j-preserved : goal.loop-j-preserved
loop-j-preserved c =
    let a = c.args in
    let i = c.loop-j.invariant in
    let q : c.next-next.result ≡ accounted_at a.setup a.health a.c c.loop-j.j =
    accounted-by a.setup a.health a.c c.loop-j.j c.bit_at-healthy.ensures c.account-was.ensures c.next-next.ensures
    in (
      omega arith,
      pack-step _ _ i.1 (ap (λ (x : Account). x.present) q) c.with_bit-view.ensures,
      array-step _ _ i.2 (ap (λ (x : Account). x.penalty) q),
      array-step _ _ i.3 (ap (λ (x : Account). x.reward) q),
      doubles-step _ _ i.4 (ap (λ (x : Account). x.score) q),
      array-step _ _ i.5 (ap (λ (x : Account). x.returns) q),
    )

pub returns : goal.returns
returns c =
    let i = c.loop-j.invariant in
    counters-by _ _ _ _ (omega arith) i.1 i.2 i.3 i.4 i.5
