use Rattle.std.proofs.Common.{rules, tests, get_or}
use Rattle.views.specs.Adoption.{is_there}
use Rattle.views.proofs.adopt.present.Goals as goal

pub returns : goal.returns
returns c = (c.senders.ensures.1 (λ l. is_there (get_or c.args.views.now l 0)) (λ l b h p. search (rules, tests)), c.senders.ensures.0)
