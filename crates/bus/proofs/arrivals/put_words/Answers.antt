use mathlib.Core.Path.{◌≡◌, refl, ◌∙◌}
use native.Mathlib.Omega.{arith}
use Rattle.words.specs.Runs.{put_run}
use Rattle.words.proofs.RunLaws.{put_step, put-end}
use Rattle.bus.proofs.arrivals.put_words.Goals as goal

pub loop-j-init : goal.loop-j-init
unfolding put_run
loop-j-init c = (omega arith, refl, refl)

pub loop-j-preserved : goal.loop-j-preserved
loop-j-preserved c =
    let l = c.loop-j in
    let put = c.put_word in (
      omega arith,
      put.auto.s ∙ l.invariant.1,
      put_step _ _ l.j _ l.invariant.2 put.ensures c.pick-w.ensures,
    )

pub returns : goal.returns
returns c =
    let e : c.loop-j.j ≡ c.args.n = omega arith in
    put-end _ _ _ _ _ e c.loop-j.invariant.2
