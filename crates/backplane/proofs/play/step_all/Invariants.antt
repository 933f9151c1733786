-- After i turns the modules below i have made their steps, and the others are as they were.
use Rattle.std.proofs.Common.{◌≡◌}
use Rattle.words.specs.Array.{array}
use Rattle.words.specs.Table.{updated}
use Rattle.backplane.specs.Play.{state_at, step_in}
use Rattle.backplane.proofs.play.step_all.Given as goal

abbrev pub invariant-loop-i : goal.invariant-loop-i
invariant-loop-i l =
    (l.states ≡ updated l.i (λ k. (step_in (state_at l.initial.states k) l.setup l.this l.before k).state) l.initial.states)
    × (l.health ≡ array l.i (λ k. (step_in (state_at l.initial.states k) l.setup l.this l.before k).health))
