-- The search through the new words.
use Rattle.std.proofs.Common.{rules, tests}
use Rattle.changes.proofs.section.check_new.Goals as goal

pub returns : goal.returns
returns c = c.each.ensures _ (λ i b l p. search (rules, tests))
