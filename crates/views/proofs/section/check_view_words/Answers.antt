-- The search through the view words.
use Rattle.std.proofs.Common.{rules, tests}
use Rattle.views.proofs.section.check_view_words.Goals as goal

pub returns : goal.returns
returns c = c.each.ensures _ (λ j b l p. search (rules, tests))
