-- Some bit of the view is not in the health vector.
use mathlib.Core.Path.{ap, ◌∙◌}
use mathlib.Core.Bool.{not}
use Prim.Native.Nat.{ℕ}
use lib.Dec.{eqb}
use Rattle.page.proofs.FlagLaws.{charged-any}
use Rattle.page.proofs.registers.somebody_charged.Goals as goal

pub returns : goal.returns
returns c =
    ap (λ (x : ℕ). not (eqb x 0)) c.cleared.ensures ∙ charged-any _ _ _ c.requires.0 c.requires.1
