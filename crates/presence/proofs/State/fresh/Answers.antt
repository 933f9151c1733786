-- All ones, no counter, no pending change, full views.
use Rattle.presence.proofs.StateRoundLaws.{fresh-made}
use Rattle.presence.proofs.State.fresh.Goals as goal

pub returns : goal.returns
returns c =
    fresh-made _ _ c.full_of-full.ensures c.filled.ensures c.zero_counters.ensures c.nothing.ensures c.fresh_views.ensures
