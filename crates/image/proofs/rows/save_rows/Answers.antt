use Rattle.std.proofs.Common.{◌≡◌, refl, ◌∙◌, arith}
use Rattle.words.specs.Runs.{put_run}
use Rattle.words.proofs.RunLaws.{put_step, put-end}
use Rattle.image.proofs.rows.save_rows.Goals as goal

pub loop-j-init : goal.loop-j-init
unfolding put_run
loop-j-init c = (omega arith, refl, refl)

pub row_word-w-requires : goal.row_word-w-requires
row_word-w-requires c = (omega arith, c.requires.1 _ c.loop-j-test.true)

pub loop-j-preserved : goal.loop-j-preserved
loop-j-preserved c =
    let l = c.loop-j in
    let put = c.put_word in
    let e = rw c.bit_at.ensures at c.row_word-w.ensures in
    let o = c.args.out.now in
    (omega arith, put.auto.s ∙ l.invariant.1, put_step o _ l.j _ l.invariant.2 put.ensures e)

pub returns : goal.returns
returns c =
    let e : c.loop-j.j ≡ c.args.n = omega arith in
    put-end _ _ _ _ _ e c.loop-j.invariant.2
