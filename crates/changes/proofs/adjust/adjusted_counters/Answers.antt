-- The fields of the definition.
use Rattle.std.proofs.Common.{rules, tests}
use Rattle.changes.specs.Adjust.{adjusted_at, adjusted_of}
use Rattle.changes.proofs.adjust.adjusted_counters.Goals as goal

pub returns : goal.returns
unfolding adjusted_of
returns c =
    let a = c.args in
    let view = c.from_fn.ensures (λ j. (adjusted_at a.new a.c j).present) (λ j b l p. search (rules, tests)) in
    let penalty = c.from_fn-2.ensures (λ j. (adjusted_at a.new a.c j).penalty) (λ j b l p. search (rules, tests)) in
    let reward = c.from_fn-3.ensures (λ j. (adjusted_at a.new a.c j).reward) (λ j b l p. search (rules, tests)) in
    λ i. record { view = view i; penalty = penalty i; reward = reward i; score = a.c.score; returns = a.c.returns }
