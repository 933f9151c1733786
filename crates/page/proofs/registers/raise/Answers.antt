-- The two flags of a step, joined with those that stay.
use mathlib.Core.Path.{ap₂, ◌∙◌}
use Prim.Native.Nat.{ℕ, ◌+◌, ◌*◌}
use Rattle.page.specs.Flags.{joined}
use Rattle.page.specs.Page.{raised}
use Rattle.page.proofs.registers.raise.Goals as goal

pub returns : goal.returns
unfolding raised
returns c =
    c.joined.ensures
    ∙ ap₂ (λ (x y : ℕ). joined c.args.flags (x + y * 2)) c.flag.ensures.0 c.flag-2.ensures.0
