use Rattle.std.proofs.Common.{◌≡◌, refl, ◌∙◌, arith}
use Rattle.words.specs.Runs.{put_run}
use Rattle.words.proofs.RunLaws.{three-step, three-end}
use Rattle.image.proofs.counters.save_counters.Goals as goal

pub loop-j-init : goal.loop-j-init
unfolding put_run
loop-j-init c = (omega arith, refl, refl)

pub counter_word-requires : goal.counter_word-requires
counter_word-requires c =
    (omega arith, omega arith, c.requires.2 _ c.loop-j-test.true)

pub put_word-requires : goal.put_word-requires
put_word-requires c = omega (arith, c.accounts_at-i.ensures)

pub counter_word-requires-in-loop-j : goal.counter_word-requires-in-loop-j
counter_word-requires-in-loop-j c =
    (omega arith, omega arith, c.requires.3 _ c.loop-j-test.true)

pub put_word-requires-in-loop-j : goal.put_word-requires-in-loop-j
put_word-requires-in-loop-j c =
    omega (arith, c.rewards_at-k.ensures, c.put_word.auto.s)

pub counter_word-requires-in-loop-j-2 : goal.counter_word-requires-in-loop-j-2
counter_word-requires-in-loop-j-2 c =
    (omega arith, omega arith, c.requires.4 _ c.loop-j-test.true)

pub put_word-requires-in-loop-j-2 : goal.put_word-requires-in-loop-j-2
put_word-requires-in-loop-j-2 c =
    omega (arith, c.returns_at-l.ensures, c.put_word.auto.s, c.put_word-in-loop-j.auto.s)

pub loop-j-preserved : goal.loop-j-preserved
loop-j-preserved c =
    let l = c.loop-j in
    let a = c.args in
    let p = c.put_word in
    let q = c.put_word-in-loop-j in
    let r = c.put_word-in-loop-j-2 in
    let ip = c.accounts_at-i.ensures in
    let ir = c.rewards_at-k.ensures in
    let it = c.returns_at-l.ensures in (
      omega arith,
      r.auto.s ∙ q.auto.s ∙ p.auto.s ∙ l.invariant.1,
      three-step a.out.now _ _ _ l.j _ _ _ (omega arith) (omega arith) l.invariant.2 p.ensures q.ensures r.ensures
          c.counter_word.ensures c.counter_word-in-loop-j.ensures c.counter_word-in-loop-j-2.ensures,
    )

pub returns : goal.returns
returns c =
    let a = c.args in
    let e : c.loop-j.j ≡ a.n = omega arith in
    three-end a.out.now _ _ _ e c.accounts_at-i.ensures c.rewards_at-k.ensures c.returns_at-l.ensures c.loop-j.invariant.2
