-- All zeros.
use Rattle.presence.specs.Opening.{blank}
use Rattle.presence.proofs.State.blank.Goals as goal

pub returns : goal.returns
unfolding blank
returns c =
    rw (c.blank.ensures, c.zero_counters.ensures, c.nothing.ensures, c.no_views.ensures)
