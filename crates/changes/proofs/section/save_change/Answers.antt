use mathlib.Core.Path.{refl}
use native.Mathlib.Omega.{arith}
use Rattle.words.specs.Runs.{put_run}
use Rattle.words.proofs.RunLaws.{put_step}
use Rattle.changes.proofs.NewWords.{new-range, change-written}
use Rattle.changes.proofs.section.save_change.Goals as goal

pub new_count-many-requires : goal.new_count-many-requires
new_count-many-requires c = c.requires.n_bound.0

pub put_word-requires : goal.put_word-requires
put_word-requires c = omega (arith, c.requires.n_bound.3)

pub loop-i-init : goal.loop-i-init
unfolding put_run
loop-i-init c = refl

pub new_word-w-requires : goal.new_word-w-requires
new_word-w-requires c =
    let r = new-range c.args.setup c.args.pending c.loop-i.i c.requires.n_bound.0 c.requires.n_bound.1 c.requires.by_index c.new_count-many.ensures
    c.loop-i-test.true
    in record { n_bound = r.0; by_index = r.1 }

pub put_word-requires-in-loop-i : goal.put_word-requires-in-loop-i
put_word-requires-in-loop-i c =
    let l = c.loop-i in
    omega (
      arith,
      c.requires.n_bound.3,
      c.new_count-many.ensures,
      c.put_word.auto.s,
      l.auto.out,
      c.loop-i-test.true,
    )

pub loop-i-preserved : goal.loop-i-preserved
loop-i-preserved c =
    let l = c.loop-i in
    let put = c.put_word-in-loop-i in
    put_step _ _ l.i _ l.invariant put.ensures c.new_word-w.ensures

pub returns : goal.returns
returns c =
    let a = c.args in
    change-written a.setup a.pending a.out.now a.at c.new_count-many.ensures (omega arith)
    c.put_word.ensures c.loop-i.invariant
