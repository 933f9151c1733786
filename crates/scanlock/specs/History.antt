-- What a history leaves: no state is kept here, everything is read off the list of events. (document 02, E2)
-- A history is a list of events, the newest first, refused ones and views included. That the scan lock's state shows what is left is
-- stated in specs/ByHistory.antt.
use Rattle.std.specs.Prelude.{ℕ, ◌+◌, ◌-◌, ◌^◌, Bool, true, false, cond, not, ◌&&◌, ◌||◌, List, [], ◌∷◌, eqb, leb, ltb, get_or, length}
use Rattle.words.specs.Bits.{full}
use Rattle.words.specs.Count.{all}
use Rattle.scanlock.specs.Axis.{present, on_axis}
use Rattle.scanlock.specs.declared.Event.{Event}
use Rattle.scanlock.specs.declared.Event.TheVariants.{View, Begin, End, Start, Abort, Finished, Stopped}

-- ---- the move of axis a, by the events that were accepted

-- What the accepted events leave of an axis's move. This only computes it, event by event: what an unfinished move and a stopping axis are
-- is stated by the events themselves in specs/ByEvents.antt, and `MotionByEvents` there says that the two agree.
pub data Motion : Type 0 where
  resting : Motion
  -- a move is unfinished
  moving : Motion
  -- stopping: aborted during an unfinished move, which no stop report has ended
  halting : Motion

-- a start during a move joins it
unfoldable pub started_motion : Motion → Motion
started_motion resting = moving
started_motion moving = moving
started_motion halting = halting

-- an abort with nothing to stop changes nothing
unfoldable pub aborted_motion : Motion → Motion
aborted_motion resting = resting
aborted_motion moving = halting
aborted_motion halting = halting

-- on a stopping axis a finish report changes nothing
unfoldable pub finished_motion : Motion → Motion
finished_motion resting = resting
finished_motion moving = resting
finished_motion halting = halting

-- on an axis that is not stopping a stop report changes nothing
unfoldable pub stopped_motion : Motion → Motion
stopped_motion resting = resting
stopped_motion moving = moving
stopped_motion halting = resting

-- neither an end nor a view ends a move
unfoldable pub motion : ℕ → List Event → Motion
motion a [] = resting
motion a (View view ∷ h) = motion a h
motion a (Begin by b ∷ h) = motion a h
motion a (End by b ∷ h) = motion a h
motion a (Start by b ∷ h) = cond (eqb b a) (started_motion (motion a h)) (motion a h)
motion a (Abort by b ∷ h) = cond (eqb b a) (aborted_motion (motion a h)) (motion a h)
motion a (Finished b ∷ h) = cond (eqb b a) (finished_motion (motion a h)) (motion a h)
motion a (Stopped b ∷ h) = cond (eqb b a) (stopped_motion (motion a h)) (motion a h)

-- a move is unfinished, also on a stopping axis
unfoldable pub is_unfinished : Motion → Bool
is_unfinished resting = false
is_unfinished moving = true
is_unfinished halting = true

-- the axis is stopping
unfoldable pub is_halting : Motion → Bool
is_halting resting = false
is_halting moving = false
is_halting halting = true

-- ---- the locks on axis a, by the events that were accepted

-- A lock is a begin. It was ended if an end came after it that answers to none of the begins between them, or a stop report of a stopping axis;
-- it was lost if a view came after it without its module. These are the locks of the events h that were neither, the newest first,
-- each by its module: `ends` counts the ends after h whose begin is in h, and `stays` tells the modules in every view after h.
unfoldable pub left : ℕ → ℕ → (ℕ → Bool) → List Event → List ℕ
left a ends stays [] = []
left a ends stays (View view ∷ h) = left a ends (λ by. stays by && present view by) h
left a ends stays (Begin by b ∷ h) =
    cond (eqb b a)
    (cond (eqb ends 0) (cond (stays by) (by ∷ left a 0 stays h) (left a 0 stays h)) (left a (ends - 1) stays h))
    (left a ends stays h)
left a ends stays (End by b ∷ h) = cond (eqb b a) (left a (ends + 1) stays h) (left a ends stays h)
left a ends stays (Start by b ∷ h) = left a ends stays h
left a ends stays (Abort by b ∷ h) = left a ends stays h
left a ends stays (Finished b ∷ h) = left a ends stays h
left a ends stays (Stopped b ∷ h) = cond (eqb b a && is_halting (motion a h)) [] (left a ends stays h)

-- the locks on axis a that a history leaves, the newest first, each by its module
abbrev pub standing : ℕ → List Event → List ℕ
standing a h = left a 0 (λ by. true) h

-- the depth of an axis, and its holder, 0 for none
abbrev pub depth : ℕ → List Event → ℕ
depth a h = length (standing a h)

-- the module whose lock on axis a is the newest; all of them are of one module
abbrev pub holder : ℕ → List Event → ℕ
holder a h = get_or (standing a h) 0 0

-- a move of axis a is unfinished
abbrev pub unfinished : ℕ → List Event → Bool
unfinished a h = is_unfinished (motion a h)

-- axis a is stopping
abbrev pub stopping : ℕ → List Event → Bool
stopping a h = is_halting (motion a h)

-- ---- of n modules

module _ (n : ℕ) where
  -- the view handed last, by the events that were accepted; at first it is full
  unfoldable pub latest_view : List Event → ℕ
  latest_view [] = full n
  latest_view (View view ∷ h) = view
  latest_view (Begin by b ∷ h) = latest_view h
  latest_view (End by b ∷ h) = latest_view h
  latest_view (Start by b ∷ h) = latest_view h
  latest_view (Abort by b ∷ h) = latest_view h
  latest_view (Finished b ∷ h) = latest_view h
  latest_view (Stopped b ∷ h) = latest_view h

  -- not 19: there is such an axis and such a module, and the module is in the view
  unfoldable pub named : List Event → ℕ → ℕ → Bool
  named h by a = on_axis a && leb by n && present (latest_view h) by

  -- 20: held by another, or stopping
  unfoldable pub taken : List Event → ℕ → ℕ → Bool
  taken h by a = (not (eqb (holder a h) 0) && not (eqb (holder a h) by)) || stopping a h

  -- the number by which an event is refused that comes after the accepted events h, or 0
  unfoldable pub number : List Event → Event → ℕ
  number h (View view) = cond (ltb view (2 ^ n)) 0 19
  number h (Begin by a) = cond (named h by a) (cond (taken h by a) 20 (cond (leb 8 (depth a h)) 21 0)) 19
  number h (End by a) = cond (named h by a) (cond (taken h by a) 20 (cond (eqb (depth a h) 0) 21 0)) 19
  number h (Start by a) = cond (named h by a) (cond (taken h by a) 20 (cond (eqb (depth a h) 0) 21 0)) 19
  number h (Abort by a) = cond (named h by a) 0 19
  number h (Finished a) = cond (on_axis a) 0 19
  number h (Stopped a) = cond (on_axis a) 0 19

  -- the events of a history that were accepted: a refused one changes nothing
  unfoldable pub accepted_events : List Event → List Event
  accepted_events [] = []
  accepted_events (e ∷ h) = cond (eqb (number (accepted_events h) e) 0) (e ∷ accepted_events h) (accepted_events h)

  -- The joystick is live exactly if the history leaves no lock that was neither ended nor lost, and no axis stopping.
  unfoldable pub live : List Event → Bool
  live h = all 8 (λ i. eqb (depth (i + 1) (accepted_events h)) 0 && not (stopping (i + 1) (accepted_events h)))
