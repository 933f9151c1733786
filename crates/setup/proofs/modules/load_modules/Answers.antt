use Rattle.std.proofs.Common.{◌≡◌, ℕ, ◌^◌, ◌<◌, not, eqb, refl, ap, ◌∙◌, arith}
use Rattle.words.specs.Array.{array}
use Rattle.words.specs.Count.{all, any}
use Rattle.words.proofs.ArrayLaws.{array-step, array-end}
use Rattle.words.proofs.CountLaws.{all-step, all_end, any_step}
use Rattle.setup.specs.Setup.{criticality_in}
use Rattle.setup.specs.Modules.{marked_place}
use Rattle.setup.proofs.ModuleLaws.{word-by, skew-by}
use Rattle.setup.proofs.modules.load_modules.Goals as goal

pub loop-j-init : goal.loop-j-init
unfolding all any array
loop-j-init c = (omega arith, refl, refl, c.requires.3)

pub loop-j-preserved : goal.loop-j-preserved
loop-j-preserved c =
    let l = c.loop-j in
    let a = c.args in
    let w = c.word_at-w in
    let p = c.marked_place-place.ensures in
    let hw : w.result < 2 ^ 32 = omega arith in (
      omega arith,
      all-step _ _ l.invariant.1 (word-by a.front a.n l.j a.s.now (omega arith) (omega arith) hw w.ensures p c.fields_fit-good.ensures),
      any_step _ _ l.invariant.2 (ap (λ (x : ℕ). not (eqb x a.n)) (p ∙ ap (marked_place l.j) w.ensures)),
      array-step _ _ l.invariant.3 (ap criticality_in w.ensures),
    )

pub returns : goal.returns
returns c =
    let a = c.args in
    let l = c.loop-j in
    let i = l.invariant in
    let e : l.j ≡ a.n = omega arith in
    (all_end _ e i.1, array-end _ e i.3, skew-by a.front a.n a.s.now (omega arith) e i.1 i.2)
