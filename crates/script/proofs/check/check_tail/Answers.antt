use Rattle.std.proofs.Common.{refl, ap, ◌∙◌, arith}
use Rattle.words.specs.Refusal.{refusal_told}
use Rattle.script.proofs.ScanLaws.{scan-ends, scan-refused, scan-next, rounds-next}
use Rattle.script.proofs.check.check_tail.Goals as goal

pub loop-at-init : goal.loop-at-init
loop-at-init c = (omega arith, refl)

pub word_refusal-requires : goal.word_refusal-requires
word_refusal-requires c = (omega arith, c.loop-at.invariant.0)

pub loop-at-preserved : goal.loop-at-preserved
loop-at-preserved c =
    let i = c.in_default.is in (
      rounds-next _ _ _ _ _ _ c.loop-at-test.true c.word_at-w.ensures c.word_refusal.ensures i _ c.scanned-next.ensures c.loop-at.invariant.0,
      scan-next _ _ _ _ _ _ c.loop-at-test.true c.word_at-w.ensures c.word_refusal.ensures i c.partitionable_at-partitionable.ensures c.scanned-next.ensures
          ∙ c.loop-at.invariant.1,
    )

pub returns-in-Err : goal.returns-in-Err
returns-in-Err c =
    ap refusal_told c.at.ensures
    ∙ scan-refused _ _ _ _ _ _ c.loop-at-test.true c.word_at-w.ensures c.word_refusal.ensures c.in-Err.is ∙ c.loop-at.invariant.1

pub returns : goal.returns
returns c = scan-ends _ _ _ _ _ _ c.loop-at-test.false (omega arith) c.ended.ensures ∙ c.loop-at.invariant.1
