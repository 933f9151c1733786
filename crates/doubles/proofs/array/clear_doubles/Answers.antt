use native.Mathlib.Omega.{arith}
use Prim.Native.Nat.{ℕ}
use mathlib.Core.Path.{refl, ap, ap₂}
use mathlib.Core.Bool.{◌&&◌, ◌||◌}
use lib.Dec.{eqb, ltb}
use Rattle.words.specs.Count.{all}
use Rattle.words.proofs.CountLaws.{all-step, all_end}
use Rattle.doubles.specs.Array.{clear_doubles}
use Rattle.doubles.proofs.array.clear_doubles.Goals as goal

pub loop-j-init : goal.loop-j-init
unfolding all
loop-j-init c = (omega arith, refl)

pub loop-j-preserved : goal.loop-j-preserved
loop-j-preserved c =
    (omega arith, all-step _ _ c.loop-j.invariant.1 (ap₂ ◌&&◌ c.is_double.ensures (ap (λ (x : ℕ). ltb c.loop-j.j c.args.n || eqb x 0) c.bits_of.ensures)))

pub returns : goal.returns
unfolding clear_doubles
returns c = all_end _ (omega arith) c.loop-j.invariant.1
