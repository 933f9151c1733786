-- The search through the module words.
use Rattle.std.proofs.Common.{rules, tests}
use Rattle.setup.specs.Check.{module_test}
use Rattle.setup.proofs.check.check_modules.Goals as goal

pub returns : goal.returns
unfolding module_test
returns c = c.each.ensures _ (λ j b l p. search (rules, tests))
