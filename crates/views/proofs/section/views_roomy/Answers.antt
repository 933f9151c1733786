-- The tests of the definition.
use Rattle.views.proofs.ViewsLaws.{some-room, none-room}
use Rattle.views.proofs.section.views_roomy.Goals as goal

pub returns-then-partitionable : goal.returns-then-partitionable
returns-then-partitionable c = some-room _ _ c.if-partitionable.true c.bounded.ensures

pub returns : goal.returns
returns c = none-room _ _ c.if-partitionable.false c.bounded-2.ensures
