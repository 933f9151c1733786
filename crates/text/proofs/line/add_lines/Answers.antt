use mathlib.Core.Path.{◌∙◌, sym}
use mathlib.Core.List.{append-nil}
use native.Mathlib.Omega.{arith}
use lib.ListN.{get_or}
use Rattle.text.specs.Lines.{lines_of}
use Rattle.text.proofs.NumberLaws.{decimal-printed}
use Rattle.text.proofs.LineLaws.{added_lines}
use Rattle.text.proofs.line.add_lines.Goals as goal

pub loop-i-init : goal.loop-i-init
unfolding lines_of
loop-i-init g c = (omega arith, sym (append-nil _), omega arith)

pub loop-i-preserved : goal.loop-i-preserved
loop-i-preserved g c =
    let l = c.loop-i in
    let a = c.args in
    let e = c.as_bytes-round.ensures.value ∙ c.format.ensures.text ∙ sym (decimal-printed a.round (omega arith)) in
    let p = c.put_line.ensures in
    (omega arith, added_lines _ _ _ _ (λ j. get_or a.health j 0) (λ j. get_or a.view j 0) _ e l.invariant.1 p.0, omega (arith, p.1, l.invariant.2))
