-- The row without bit l where l is present, else 0.
use mathlib.Core.Path.{ap₂, ◌∙◌}
use mathlib.Core.Bool.{cond}
use Rattle.vote.specs.Lanes.{ballot_of}
use Rattle.vote.proofs.lanes.ballot.Goals as goal

pub returns : goal.returns
unfolding ballot_of
returns c = c.pick.ensures ∙ ap₂ (λ b v. cond b v 0) c.bit_at.ensures c.without.ensures
