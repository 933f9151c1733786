use Rattle.std.proofs.Common.{ap, ◌∙◌}
use Rattle.script.specs.Cursor.{gather}
use Rattle.script.proofs.GatherLaws.{gather-ends, gather-found, gather-next}
use Rattle.script.proofs.play.next_play.Goals as goal

pub loop-at-init : goal.loop-at-init
loop-at-init c = ap (gather _ _ _ 0) c.none-events.ensures

pub loop-at-preserved : goal.loop-at-preserved
loop-at-preserved c =
    gather-next _ _ _ _ _ c.loop-at-test.true c.word_at-w.ensures c.is_play.ensures
    c.if-is_play.false c.partitionable_at.ensures c.due_after-due.ensures c.events_after-more.ensures
    ∙ c.loop-at.invariant

pub returns : goal.returns
returns c =
    gather-ends _ _ _ _ _ _ c.loop-at-test.false c.loop-at.auto.at-end c.max.ensures c.none-nothing.ensures c.loop-at.invariant

pub returns-then-is_play : goal.returns-then-is_play
returns-then-is_play c =
    gather-found _ _ _ _ _ c.loop-at-test.true c.word_at-w.ensures c.is_play.ensures c.if-is_play.true c.rounds_left.ensures
    ∙ c.loop-at.invariant
