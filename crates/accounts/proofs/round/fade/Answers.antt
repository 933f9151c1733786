use Prim.Native.Nat.{◌<◌}
use mathlib.Core.Path.{◌≡◌, refl, ap, ◌∙◌, sym, subst}
use native.Mathlib.Omega.{arith}
use Rattle.words.specs.Bits.{pack}
use Rattle.words.specs.Array.{replaced}
use Rattle.words.proofs.BitLaws.{pack-step, packed_lt}
use Rattle.words.proofs.ArrayLaws.{replaced-step}
use Rattle.doubles.specs.Double.{high_word, low_word}
use Rattle.accounts.specs.declared.Account.{Account}
use Rattle.accounts.specs.Lent.{faded_at}
use Rattle.accounts.specs.Range.{CountRange}
use Rattle.accounts.proofs.CountedLaws.{ahead}
use Rattle.accounts.proofs.FadedLaws.{score-read, faded-by, score-ahead, faded-all}
use Rattle.accounts.proofs.round.fade.Goals as goal

pub loop-j-init : goal.loop-j-init
unfolding pack replaced
loop-j-init c = (omega arith, refl, refl, refl, refl)

pub faded-next-requires : goal.faded-next-requires
faded-next-requires c =
    let a = c.args in
    let i = c.loop-j.invariant in
    let m : c.loop-j.j < a.n = omega arith in
    subst (λ (x : Account). CountRange a.q x)
    (sym (score-read a.limit a.high.now a.low.now a.returns.now c.loop-j.j
    (score-ahead _ _ c.loop-j.j _ _ i.2 i.3 c.of_words-held.ensures) (ahead _ c.loop-j.j _ i.4)))
    (c.requires.by_index c.loop-j.j m)

pub with_bit-view-requires : goal.with_bit-view-requires
with_bit-view-requires c = (packed_lt _ _ c.loop-j.invariant.1, omega arith)

pub loop-j-preserved : goal.loop-j-preserved
loop-j-preserved c =
    let a = c.args in
    let i = c.loop-j.invariant in
    let q : c.faded-next.result ≡ faded_at a.factor a.limit a.q a.health a.high.now a.low.now a.returns.now c.loop-j.j =
    faded-by a.limit a.high.now a.low.now a.returns.now a.factor a.q a.health c.loop-j.j
    (score-ahead _ _ c.loop-j.j _ _ i.2 i.3 c.of_words-held.ensures) (ahead _ c.loop-j.j _ i.4)
    c.bit_at-healthy.ensures c.faded-next.ensures
    in (
      omega arith,
      pack-step _ _ i.1 (ap (λ (x : Account). x.present) q) c.with_bit-view.ensures,
      replaced-step _ _ _ i.2 (c.high_word.ensures ∙ ap (λ (x : Account). high_word x.score) q),
      replaced-step _ _ _ i.3 (c.low_word.ensures ∙ ap (λ (x : Account). low_word x.score) q),
      replaced-step _ _ _ i.4 (ap (λ (x : Account). x.returns) q),
    )

pub returns : goal.returns
returns c =
    let a = c.args in
    let i = c.loop-j.invariant in
    faded-all a.n c.loop-j.j (omega arith) c.requires.n_bound.0
    (λ j. faded_at a.factor a.limit a.q a.health a.high.now a.low.now a.returns.now j)
    a.high.now a.low.now a.returns.now c.requires.n_bound.1 c.requires.n_bound.2 c.requires.n_bound.3 i.1 i.2 i.3 i.4
