-- The three fields are those of `judgement_of`.
use Rattle.words.proofs.BitLaws.{packed_lt}
use Rattle.rules.proofs.SyndromeLaws.{judgement-by}
use Rattle.rules.proofs.judge.judgement.Goals as goal

pub health-health-requires : goal.health-health-requires
health-health-requires c = (c.requires.0, packed_lt _ _ c.voters-voters.ensures)

pub returns : goal.returns
returns c = judgement-by _ _ _ _ c.voters-voters.ensures c.health-health.ensures c.accusations-accusations.ensures c.syndrome-syndrome.ensures
