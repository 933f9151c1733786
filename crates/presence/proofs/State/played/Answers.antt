-- The round is judged, and the answer put together.
use Rattle.presence.proofs.StateRoundLaws.{round-made, next_small}
use Rattle.presence.proofs.State.played.Goals as goal

pub outgoing_view-requires : goal.outgoing_view-requires
outgoing_view-requires c =
    (c.requires, next_small _ _ _ c.requires c.after-state.ensures)

pub returns : goal.returns
returns c =
    round-made _ _ _ _ c.judged-j.ensures c.outgoing-word.ensures c.outgoing_view.ensures c.after-state.ensures
