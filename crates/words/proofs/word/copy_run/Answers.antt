use Rattle.std.proofs.Common.{◌≡◌, refl, ◌∙◌, arith}
use Rattle.words.specs.Runs.{put_run}
use Rattle.words.proofs.RunLaws.{put_step, put-end}
use Rattle.words.proofs.word.copy_run.Goals as goal

pub loop-j-init : goal.loop-j-init
unfolding put_run
loop-j-init c = (omega arith, refl, refl)

pub loop-j-preserved : goal.loop-j-preserved
loop-j-preserved c =
    let l = c.loop-j in
    let put = c.put_word in
    let w = c.word_at-w in
    let a = c.args in
    (omega arith, put.auto.s ∙ l.invariant.1, put_step a.out.now a.to l.j _ l.invariant.2 put.ensures w.ensures)

pub returns : goal.returns
returns c =
    let e : c.loop-j.j ≡ c.args.k = omega arith in
    put-end _ _ _ _ _ e c.loop-j.invariant.2
