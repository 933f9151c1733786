-- The test of the definition.
use Prim.Native.Nat.{ℕ, ◌/◌, ◌%◌, ◌^◌}
use mathlib.Core.Path.{ap}
use mathlib.Core.Bool.{◌&&◌}
use lib.Dec.{eqb, ltb}
use Rattle.views.specs.ViewWord.{view_word_heard}
use Rattle.views.proofs.word.view_heard.Goals as goal

pub returns : goal.returns
unfolding view_word_heard
returns c = ap (λ (p : ℕ). eqb (c.args.w / 2 ^ 28) 10 && ltb (c.args.w % 2 ^ 28) p) c.power.ensures
