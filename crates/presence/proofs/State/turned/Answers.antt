-- The parts of the state are small enough.
use Rattle.presence.proofs.ValidLaws.{valid-fits, turn_small}
use Rattle.presence.proofs.State.turned.Goals as goal

pub turned-requires : goal.turned-requires
turned-requires c =
    let r = turn_small _ (valid-fits _ c.requires) in record { n_bound = r.0; by_index = r.1 }
