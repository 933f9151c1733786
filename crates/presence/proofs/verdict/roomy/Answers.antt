-- Each test in its turn.
use Rattle.presence.specs.Valid.{roomy}
use Rattle.presence.proofs.verdict.roomy.Goals as goal

pub returns : goal.returns
unfolding roomy
returns c =
    rw (c.rows_roomy.ensures, c.counters_roomy-counters.ensures, c.fades.ensures, c.pending_roomy.ensures, c.views_roomy-views.ensures)
