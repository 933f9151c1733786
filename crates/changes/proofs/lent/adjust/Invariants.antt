-- The counters below j are those after the change, the others as they were.
use Rattle.std.proofs.Common.{◌≡◌}
use Rattle.words.specs.Array.{replaced}
use Rattle.changes.specs.Lent.{adjusted_in}
use Rattle.changes.proofs.lent.adjust.Given as goal

abbrev pub invariant-loop-j : goal.invariant-loop-j
invariant-loop-j l =
    (l.penalty ≡ replaced l.j (λ k. (adjusted_in l.view l.p l.r l.criticality l.initial.penalty l.initial.reward k).penalty) l.initial.penalty)
    × (l.reward ≡ replaced l.j (λ k. (adjusted_in l.view l.p l.r l.criticality l.initial.penalty l.initial.reward k).reward) l.initial.reward)
