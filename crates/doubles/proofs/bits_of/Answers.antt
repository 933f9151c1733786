-- Only a NaN differs from itself.
use mathlib.Core.Path.{◌≡◌, refl, sym, ap, subst, ◌∙◌}
use mathlib.Core.Bool.{false, not}
use lib.Dec.{T}
use lib.Ieee.{Float, nan, inf, fin, is_nan, to_bits, binary64, ne}
use lib.Ieee.Compare.{differs_from_itself}
use Rattle.doubles.proofs.bits_of.Goals as goal

no_nan : (x : Float) → ne x x ≡ false → T (not (is_nan x))
unfolding is_nan ne
no_nan nan e = subst T e tt
no_nan (inf s) e = tt
no_nan (fin s m k) e = tt

nan-bits : to_bits binary64 nan ≡ 0x7ff8000000000000
unfolding to_bits
nan-bits = refl

pub returns-then-x : goal.returns-then-x
returns-then-x c = sym (ap (to_bits binary64) (differs_from_itself c.args.x (subst T (sym c.if-x.true) tt)) ∙ nan-bits)

pub float_to_bits-result : goal.float_to_bits-result
float_to_bits-result c = no_nan c.args.x c.if-x.false
