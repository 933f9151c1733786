-- Raised, then cut.
use Prim.Native.Nat.{ℕ, ◌+◌}
use mathlib.Core.Path.{ap, ◌∙◌}
use mathlib.Core.Bool.{cond}
use lib.Dec.{leb}
use Rattle.changes.specs.Adjust.{fitted}
use Rattle.changes.proofs.adjust.fitted.Goals as goal

pub returns : goal.returns
unfolding fitted
returns c =
    let a = c.args in
    c.pick.ensures ∙ ap (λ (r : ℕ). cond (leb r (a.p + a.criticality)) r (a.p + a.criticality)) c.pick-raised.ensures
