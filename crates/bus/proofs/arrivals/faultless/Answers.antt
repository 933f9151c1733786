-- The all-ones vector fits a word.
use Rattle.words.proofs.BitLaws.{full-lt}
use Rattle.rules.proofs.ReceptionLaws.{below-kind}
use Rattle.bus.proofs.ArrivalLaws.{faultless-by}
use Rattle.bus.proofs.arrivals.faultless.Goals as goal

pub bus_word-requires : goal.bus_word-requires
bus_word-requires c = rw c.full_of-ones.ensures (below-kind _ _ c.requires (full-lt _))

pub view_word-requires : goal.view_word-requires
view_word-requires c =
    rw c.full_of-ones.ensures (below-kind _ _ c.requires (full-lt _))

pub returns : goal.returns
returns c =
    faultless-by _ c.full_of-ones.ensures c.filled.ensures c.bus_word.ensures c.view_word.ensures
