-- The own number is one of the modules, so its entry is in the array.
use mathlib.Core.Path.{refl}
use native.Mathlib.Omega.{arith}
use Rattle.presence.specs.Step.{place_of}
use Rattle.presence.proofs.ValidLaws.{valid-fits}
use Rattle.presence.proofs.State.place.Goals as goal

pub overflow_sub-result : goal.overflow_sub-result
overflow_sub-result c = let f = valid-fits _ c.requires in omega arith

pub offset_bounds-self-self : goal.offset_bounds-self-self
offset_bounds-self-self c =
    let f = valid-fits _ c.requires in
    let s = f.setup in
    omega arith

pub bounds-self-self : goal.bounds-self-self
bounds-self-self c =
    let f = valid-fits _ c.requires in
    let s = f.setup in
    omega arith

pub returns : goal.returns
unfolding place_of
returns c = refl
