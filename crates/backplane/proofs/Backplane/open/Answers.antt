-- The parts are put together.
use Prim.Native.Nat.{ℕ}
use mathlib.Core.Path.{ap, ◌∙◌}
use Rattle.words.specs.Array.{array}
use Rattle.backplane.proofs.PlayLaws.{open_made}
use Rattle.backplane.proofs.Backplane.open.Goals as goal

pub returns : goal.returns
returns c =
    let f = c.full_of.ensures in
    open_made _ _ c.opened_states-states.ensures (c.filled-health.ensures ∙ ap (λ (x : ℕ). array c.args.setup.n (λ j. x)) f)
    c.faultless-bus.ensures c.hearing-heard.ensures
