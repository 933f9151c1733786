-- The own number is one of the modules, so its mark is a bit of the vector.
use native.Mathlib.Omega.{arith}
use Rattle.presence.specs.Step.{mark_of}
use Rattle.presence.proofs.ValidLaws.{valid-fits}
use Rattle.presence.proofs.State.marked.Goals as goal

pub overflow_sub-self : goal.overflow_sub-self
overflow_sub-self c = let f = valid-fits _ c.requires in omega arith

pub bit_at-requires : goal.bit_at-requires
bit_at-requires c =
    let f = valid-fits _ c.requires in
    let s = f.setup in
    omega arith

pub returns : goal.returns
unfolding mark_of
returns c = c.bit_at.ensures
