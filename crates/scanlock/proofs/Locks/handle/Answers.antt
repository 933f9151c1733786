-- Each event by its own method.
use mathlib.Core.Path.{sym, ap, ◌∙◌}
use Rattle.scanlock.specs.Locks.{event_of}
use Rattle.scanlock.proofs.Locks.handle.Goals as goal

pub returns-in-View : goal.returns-in-View
unfolding event_of
returns-in-View c = c.set_view.ensures ∙ ap (event_of _) (sym c.in-View.is)

pub returns-in-Begin : goal.returns-in-Begin
unfolding event_of
returns-in-Begin c = c.begin.ensures ∙ ap (event_of _) (sym c.in-Begin.is)

pub returns-in-End : goal.returns-in-End
unfolding event_of
returns-in-End c = c.end.ensures ∙ ap (event_of _) (sym c.in-End.is)

pub returns-in-Start : goal.returns-in-Start
unfolding event_of
returns-in-Start c = c.start.ensures ∙ ap (event_of _) (sym c.in-Start.is)

pub returns-in-Abort : goal.returns-in-Abort
unfolding event_of
returns-in-Abort c = c.abort.ensures ∙ ap (event_of _) (sym c.in-Abort.is)

pub returns-in-Finished : goal.returns-in-Finished
unfolding event_of
returns-in-Finished c = c.finished.ensures ∙ ap (event_of _) (sym c.in-Finished.is)

pub returns-in-Stopped : goal.returns-in-Stopped
unfolding event_of
returns-in-Stopped c = c.stopped.ensures ∙ ap (event_of _) (sym c.in-Stopped.is)
