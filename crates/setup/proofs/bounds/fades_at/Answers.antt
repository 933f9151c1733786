-- The kind of the second word; where there is none it counts as 0.
use Rattle.std.proofs.Common.{ℕ, ◌/◌, eqb, ap}
use Rattle.words.specs.Word.{kind_unit}
use Rattle.setup.specs.Setup.{fades_in}
use Rattle.setup.proofs.BoundLaws.{short-fades}
use Rattle.setup.proofs.bounds.fades_at.Goals as goal

pub returns-then-s-lt8 : goal.returns-then-s-lt8
returns-then-s-lt8 c = short-fades _ c.requires c.if-s-lt8.true

pub returns : goal.returns
unfolding fades_in
returns c = ap (λ (w : ℕ). eqb (w / kind_unit) 0) c.word_at.ensures
