-- 12 where the event is wrong, else 13 or nothing by its kind and its sender, who is at least 1.
use Rattle.std.proofs.Common.{arith}
use Rattle.script.proofs.ScanLaws.{event-wrong, event-known, event-outside, event-right}
use Rattle.script.proofs.check.event_refusal.Goals as goal

pub returns-then-not-loss-is : goal.returns-then-not-loss-is
returns-then-not-loss-is c = event-wrong _ _ _ c.is-loss.ensures c.is.ensures c.event_ok.ensures c.if-not-loss-is.true

pub overflow_sub-sender : goal.overflow_sub-sender
overflow_sub-sender c =
    let h = event-known _ 0 _ c.is-loss.ensures c.is.ensures c.event_ok.ensures c.if-not-loss-is.false in
    omega (arith, c.field-sender.ensures, h)

pub returns-then-not-loss-bit_at : goal.returns-then-not-loss-bit_at
returns-then-not-loss-bit_at c =
    event-outside _ _ _ c.is-loss.ensures c.is.ensures c.event_ok.ensures c.if-not-loss-is.false c.field-sender.ensures c.bit_at.ensures c.if-not-loss-bit_at.true

pub returns : goal.returns
returns c =
    event-right _ _ _ c.is-loss.ensures c.is.ensures c.event_ok.ensures c.if-not-loss-is.false c.field-sender.ensures c.bit_at.ensures c.if-not-loss-bit_at.false
