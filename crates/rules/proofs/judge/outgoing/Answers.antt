-- The bus word of the one syndrome or the other.
use Prim.Native.Nat.{◌<◌, ◌^◌}
use mathlib.Core.Path.{◌∙◌, ap}
use native.Mathlib.Omega.{arith}
use Rattle.words.proofs.Truth.{cond_both}
use Rattle.rules.specs.Hearing.{bus_word}
use Rattle.rules.specs.Syndrome.{outgoing_of}
use Rattle.rules.proofs.judge.outgoing.Goals as goal

pub bus_word-requires : goal.bus_word-requires
bus_word-requires c = rw c.pick.ensures (cond_both (λ x. x < 2 ^ 28) c.args.mark _ _ (omega arith) (omega arith))

pub returns : goal.returns
unfolding outgoing_of
returns c = c.bus_word.ensures ∙ ap bus_word c.pick.ensures
