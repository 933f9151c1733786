-- The controller bits, the words and the view words are put together.
use Rattle.bus.proofs.ArrivalLaws.{arrived-by}
use Rattle.bus.proofs.arrivals.arrived.Goals as goal

pub returns : goal.returns
returns c =
    arrived-by _ _ _ _ c.arrived_bits.ensures c.arrived_words.ensures c.arrived_words-2.ensures
