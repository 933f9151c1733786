-- How far the word is above the first of its kind and number, over the unit of a read place.
use Rattle.std.proofs.Common.{ℕ, ◌/◌, ap}
use Rattle.setup.specs.Modules.{marked_place}
use Rattle.setup.proofs.modules.marked_place.Goals as goal

pub returns : goal.returns
unfolding marked_place
returns c = ap (λ (x : ℕ). x / 131072) c.gap.ensures
