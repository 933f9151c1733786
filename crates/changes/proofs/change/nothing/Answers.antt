-- The record, field by field.
use mathlib.Core.Path.{refl}
use Rattle.changes.specs.Pending.{nothing}
use Rattle.changes.proofs.change.nothing.Goals as goal

pub returns : goal.returns
unfolding nothing
returns c = refl
