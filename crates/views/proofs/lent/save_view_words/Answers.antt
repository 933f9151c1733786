use Rattle.std.proofs.Common.{refl, arith}
use Rattle.words.specs.Runs.{put_run}
use Rattle.words.proofs.RunLaws.{put_step}
use Rattle.views.specs.declared.Views.{Views}
use Rattle.views.proofs.ViewWords.{views-written}
use Rattle.views.proofs.lent.save_view_words.Goals as goal

pub loop-j-init : goal.loop-j-init
unfolding put_run
loop-j-init c = refl

pub loop-j-preserved : goal.loop-j-preserved
loop-j-preserved c = put_step _ _ c.loop-j.j _ c.loop-j.invariant c.put_word.ensures refl

pub returns : goal.returns
returns c =
    let a = c.args in
    let v : Views = record { words = a.words.now; earlier = a.earlier; adopted = a.adopted.view; out = a.adopted.out } in
    views-written a.out.now a.at a.n a.latest v (omega arith) c.loop-j.invariant c.put_word-2.ensures c.put_word-3.ensures c.put_word-4.ensures
    c.flag.ensures.0 c.put_word-5.ensures
