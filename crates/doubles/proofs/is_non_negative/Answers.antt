use mathlib.Core.Path.{sym, ap, subst, ◌∙◌}
use Prim.Native.Nat.{ℕ}
use lib.Dec.{T, ltb}
use Rattle.doubles.proofs.DoubleLaws.{non-negative-by-bits}
use Rattle.doubles.proofs.is_non_negative.Goals as goal

pub returns : goal.returns
returns c =
    ap (λ (b : ℕ). ltb b 0x7ff0000000000000) c.bits_of.ensures
    ∙ non-negative-by-bits c.args.x (subst T (sym c.well_formed.0.1) tt)
