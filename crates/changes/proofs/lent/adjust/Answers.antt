use Rattle.std.proofs.Common.{◌≡◌, refl, ap, arith}
use Rattle.words.specs.Array.{replaced}
use Rattle.words.proofs.ArrayLaws.{replaced-step}
use Rattle.accounts.specs.declared.Account.{Account}
use Rattle.accounts.proofs.CountedLaws.{ahead}
use Rattle.changes.specs.Lent.{adjusted_in}
use Rattle.changes.proofs.AdjustedArrays.{adjusted-lent, replaced-all}
use Rattle.changes.proofs.lent.adjust.Goals as goal

pub loop-j-init : goal.loop-j-init
unfolding replaced
loop-j-init c = (refl, refl)

pub adjusted-next-requires : goal.adjusted-next-requires
adjusted-next-requires c = (c.requires.1, c.requires.2 c.loop-j.j c.loop-j-test.true)

pub loop-j-preserved : goal.loop-j-preserved
loop-j-preserved c =
    let l = c.loop-j in
    let a = c.args in
    let q : c.adjusted-next.result ≡ adjusted_in a.view a.p a.r a.criticality.now a.penalty.now a.reward.now l.j =
    adjusted-lent a.view a.p a.r a.criticality.now a.penalty.now a.reward.now l.j (ahead _ l.j _ l.invariant.0) (ahead _ l.j _ l.invariant.1)
    c.bit_at.ensures c.adjusted-next.ensures
    in (
      replaced-step _ _ _ l.invariant.0 (ap (λ (x : Account). x.penalty) q),
      replaced-step _ _ _ l.invariant.1 (ap (λ (x : Account). x.reward) q),
    )

pub returns : goal.returns
returns c =
    let l = c.loop-j in
    let e : l.j ≡ c.args.n = omega arith in (
      replaced-all c.args.n _ c.args.penalty.now c.requires.0 e c.requires.3 l.invariant.0,
      replaced-all c.args.n _ c.args.reward.now c.requires.0 e c.requires.4 l.invariant.1,
    )
