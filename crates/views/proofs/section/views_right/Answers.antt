use Rattle.std.proofs.Common.{refl, ap, ◌∙◌, arith}
use Rattle.words.specs.Word.{word_at}
use Rattle.words.specs.Count.{all}
use Rattle.words.proofs.CountLaws.{all-step, all_end}
use Rattle.views.specs.Section.{view_ok}
use Rattle.views.proofs.ViewTestLaws.{right_by}
use Rattle.views.proofs.section.views_right.Goals as goal

pub loop-j-init : goal.loop-j-init
unfolding all
loop-j-init c = refl

pub loop-j-preserved : goal.loop-j-preserved
loop-j-preserved c = all-step _ _ c.loop-j.invariant (c.view_ok-good.ensures ∙ ap (view_ok _) c.word_at.ensures)

pub returns : goal.returns
returns c =
    let a = c.args in
    right_by (word_at a.s.now) a.n a.view a.at (all_end _ (omega arith) c.loop-j.invariant)
    c.power-size.ensures c.word_at-2.ensures c.word_at-3.ensures
    c.word_at-4.ensures c.word_at-last.ensures
