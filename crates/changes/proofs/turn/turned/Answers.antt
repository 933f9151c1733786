-- The change is due, or not.
use Rattle.changes.proofs.TurnLaws.{turned-due, turned-not}
use Rattle.changes.proofs.turn.turned.Goals as goal

pub returns-then-pending-eq1 : goal.returns-then-pending-eq1
returns-then-pending-eq1 c =
    turned-due c.args.books c.if-pending-eq1.true c.renewed.ensures
    c.adjusted_counters.ensures c.nothing.ensures

pub returns : goal.returns
returns c =
    turned-not c.args.books c.if-pending-eq1.false c.counted_down.ensures
