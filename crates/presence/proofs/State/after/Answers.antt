-- A change that is due, then rule 8, the views, and the rest is as the definition says.
use Rattle.presence.proofs.ValidLaws.{valid-fits}
use Rattle.presence.proofs.StateRoundLaws.{after-made, books-range}
use Rattle.presence.proofs.State.after.Goals as goal

pub counters-requires : goal.counters-requires
counters-requires c =
    let r = books-range _ (valid-fits _ c.requires.valid) c.turned-books.ensures in record { n_bound = r.0; by_index = r.1 }

pub returns : goal.returns
returns c =
    after-made _ _ _ c.requires.j_value c.turned-books.ensures c.counters.ensures
    c.agreed.ensures
