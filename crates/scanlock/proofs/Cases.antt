-- The table of document 02's E2 is right, line by line: computed.
use mathlib.Core.Path.{refl}
use Rattle.words.specs.Bits.{bit}
use Rattle.words.specs.Count.{all}
use Rattle.words.specs.Table.{updated}
use Rattle.scanlock.specs.Axis.{present, on_axis, barred, deeper, begun_of, shallower, ended_of, moved, started_of, aborted_of, finished_of, stopped_of, lost_of, idle_axis}
use Rattle.scanlock.specs.Locks.{fresh_locks, admits, settled_of, seen_axes, set_view_of, begin_of, end_of, start_move_of, abort_of, finished_by, stopped_by, event_of, joystick_of}
use Rattle.scanlock.specs.History.{started_motion, aborted_motion, finished_motion, stopped_motion, motion, is_unfinished, is_halting, left, latest_view, named, taken, number, accepted_events, live}
use Rattle.scanlock.specs.ByHistory.{locks_after}
use Rattle.scanlock.specs.Cases.{CasesRight}

pub cases-right : CasesRight
unfolding bit all updated present on_axis barred deeper begun_of shallower ended_of moved started_of aborted_of finished_of stopped_of lost_of idle_axis fresh_locks admits settled_of seen_axes set_view_of begin_of end_of start_move_of abort_of finished_by stopped_by event_of joystick_of started_motion aborted_motion finished_motion stopped_motion motion is_unfinished is_halting left latest_view named taken number accepted_events live locks_after
cases-right = refl
