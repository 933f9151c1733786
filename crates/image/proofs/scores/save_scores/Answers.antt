use Rattle.std.proofs.Common.{◌≡◌, refl, ◌∙◌, arith}
use Rattle.words.specs.Runs.{put_run}
use Rattle.words.proofs.RunLaws.{pair_step, pair_end}
use Rattle.image.proofs.HalfLaws.{pair-high, pair-low}
use Rattle.image.proofs.scores.save_scores.Goals as goal

pub loop-j-init : goal.loop-j-init
unfolding put_run
loop-j-init c = (omega arith, refl, refl)

pub put_word-requires : goal.put_word-requires
put_word-requires c = omega (arith, c.accounts_at-i.ensures)

pub put_word-requires-in-loop-j : goal.put_word-requires-in-loop-j
put_word-requires-in-loop-j c = omega (arith, c.accounts_at-i.ensures, c.put_word.auto.s)

pub counter_word-requires : goal.counter_word-requires
counter_word-requires c = (omega arith, omega arith, c.requires.2 _ c.loop-j-test.true)

pub put_word-requires-in-loop-j-2 : goal.put_word-requires-in-loop-j-2
put_word-requires-in-loop-j-2 c = omega (arith, c.returns_at-l.ensures, c.put_word.auto.s, c.put_word-in-loop-j.auto.s)

pub loop-j-preserved : goal.loop-j-preserved
loop-j-preserved c =
    let a = c.args in
    let ip = c.accounts_at-i.ensures in
    let ir = c.returns_at-l.ensures in (
      omega arith,
      c.put_word-in-loop-j-2.auto.s ∙ c.put_word-in-loop-j.auto.s ∙ c.put_word.auto.s ∙ c.loop-j.invariant.1,
      pair_step a.out.now _ _ c.loop-j.j _ _ (omega arith) c.loop-j.invariant.2 c.put_word.ensures c.put_word-in-loop-j.ensures c.put_word-in-loop-j-2.ensures
          (pair-high c.loop-j.j a.high.now a.low.now) (pair-low c.loop-j.j a.high.now a.low.now) c.counter_word.ensures,
    )

pub returns : goal.returns
returns c =
    let a = c.args in
    let e : c.loop-j.j ≡ a.n = omega arith in
    pair_end a.out.now _ _ e c.accounts_at-i.ensures c.returns_at-l.ensures c.loop-j.invariant.2
