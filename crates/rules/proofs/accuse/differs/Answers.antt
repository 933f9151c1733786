-- The two tests are those of `differs_at`.
use Rattle.rules.specs.Accusation.{differs_at}
use Rattle.rules.proofs.accuse.differs.Goals as goal

pub returns : goal.returns
unfolding differs_at
returns c = rw (c.bit_at.ensures, c.bit_at-2.ensures)
