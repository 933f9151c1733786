use mathlib.Core.Path.{◌≡◌, refl, ap, ◌∙◌}
use mathlib.Core.Bool.{Bool}
use native.Mathlib.Omega.{arith}
use lib.ListN.{get_or}
use Rattle.words.specs.Table.{updated, table}
use Rattle.words.proofs.TableLaws.{updated-step}
use Rattle.bus.specs.Heard.{heard_word, heard_words}
use Rattle.bus.proofs.half_heard.heard_words.Goals as goal

pub loop-x-init : goal.loop-x-init
unfolding updated
loop-x-init c = (omega arith, refl)

pub loop-x-preserved : goal.loop-x-preserved
loop-x-preserved c =
    let l = c.loop-x in
    let a = c.args in
    let q = c.heard_word.ensures ∙ ap (λ (b : Bool). heard_word a.n b (get_or a.words.now l.x 0)) c.bit_at.ensures in
    (omega arith, updated-step _ _ _ l.invariant.1 q)

pub returns : goal.returns
unfolding table heard_words
returns c =
    let e : c.loop-x.x ≡ 256 = omega arith in
    rw e at c.loop-x.invariant.1
