-- The word, tested by its place.
use Rattle.changes.proofs.SectionTests.{first-right, second-right, module-right}
use Rattle.changes.proofs.section.new_right.Goals as goal

-- src/section.rt:59:9
pub returns-then-i-eq0 : goal.returns-then-i-eq0
returns-then-i-eq0 c = first-right _ _ _ c.if-i-eq0.true c.word_at-w.ensures c.limit_ok.ensures

-- src/section.rt:62:9
pub returns-then-i-eq1 : goal.returns-then-i-eq1
returns-then-i-eq1 c = second-right _ _ _ c.if-i-eq1.true c.word_at-w.ensures c.limit_ok-then-i-eq1.ensures

-- src/section.rt:53:1
pub returns : goal.returns
returns c =
    module-right _ _ _ c.if-i-eq0.false c.if-i-eq1.false c.word_at.ensures c.word_at-w.ensures c.new_module_ok.ensures
