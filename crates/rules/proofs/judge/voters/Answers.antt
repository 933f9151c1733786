-- The view has no bits at n or above, so neither has the conjunction.
use Rattle.words.proofs.MaskLaws.{and-pack}
use Rattle.rules.proofs.judge.voters.Goals as goal

pub returns : goal.returns
returns c = and-pack c.args.n c.args.view _ c.requires
