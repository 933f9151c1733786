-- Document 02, E2, sentence by sentence: a table of what the definitions give and what the sentence says, of a backplane of four modules.
-- Each line asks the state (`locks_after`, specs/ByHistory.antt) and the history (specs/History.antt). The checker computes it whole, in proofs/Cases.antt.
use Rattle.std.specs.Prelude.{ℕ, ◌≡◌, Bool, true, false, ◌&&◌, List, [], ◌∷◌, ◌++◌, reverse, eqb, replicate}
use Rattle.std.specs.Bool.{beq}
use Rattle.scanlock.specs.Axis.{axis, free}
use Rattle.scanlock.specs.Locks.{axis_at, event_of, joystick_of}
use Rattle.scanlock.specs.History.{depth, holder, unfinished, stopping, number, accepted_events, live}
use Rattle.scanlock.specs.ByHistory.{locks_after}
use Rattle.scanlock.specs.declared.Axis.{Axis}
use Rattle.scanlock.specs.declared.Event.{Event}
use Rattle.scanlock.specs.declared.Event.TheVariants.{View, Begin, End, Start, Abort, Finished, Stopped}

-- ---- the lines: events are written in the order in which they come

-- two axes are the same, field by field
abbrev pub same_axis : Axis → Axis → Bool
same_axis x y =
    eqb x.holder y.holder && eqb x.depth y.depth && beq x.moving y.moving && beq x.stopping y.stopping

-- after these events axis a is x: its holder, its depth, whether a move is unfinished, whether it is stopping
abbrev pub shows : List Event → ℕ → Axis → Bool
shows h a x =
    let t = accepted_events 4 (reverse h) in
    same_axis (axis_at (locks_after 4 (reverse h)) a) x && same_axis (axis (holder a t) (depth a t) (unfinished a t) (stopping a t)) x

-- after these events one more is answered by this number
abbrev pub answers : List Event → Event → ℕ → Bool
answers h e says =
    eqb (event_of (locks_after 4 (reverse h)) e).number says && eqb (number 4 (accepted_events 4 (reverse h)) e) says

-- after these events the joystick is live, or not
abbrev pub joystick : List Event → Bool → Bool
joystick h says = beq (joystick_of (locks_after 4 (reverse h))) says && beq (live 4 (reverse h)) says

-- every line is right
abbrev pub every_line : List Bool → Bool
every_line [] = true
every_line (l ∷ ls) = l && every_line ls

-- ---- histories that many lines begin with

-- module 4 holds axis 1, and a move of it is unfinished
abbrev pub moves : List Event
moves = Begin 4 1 ∷ Start 4 1 ∷ []

-- module 2 has aborted that move
abbrev pub stops : List Event
stops = Begin 4 1 ∷ Start 4 1 ∷ Abort 2 1 ∷ []

-- module 4 holds axis 1 eight times
abbrev pub eight : List Event
eight = replicate 8 (Begin 4 1)

-- ---- locks

abbrev pub lock_cases : List Bool
lock_cases =
    -- a module begins and ends locks on axes 1..8
    shows (Begin 4 1 ∷ []) 1 (axis 4 1 false false) ∷ shows (Begin 4 8 ∷ []) 8 (axis 4 1 false false)
    ∷ shows (Begin 4 1 ∷ End 4 1 ∷ []) 1 free ∷ shows (Begin 4 8 ∷ End 4 8 ∷ []) 8 free
    -- nested to depth 8 on each: a ninth is refused and changes nothing, and the depth of one axis does not count for another
    ∷ shows eight 1 (axis 4 8 false false) ∷ answers eight (Begin 4 1) 21 ∷ shows (eight ++ (Begin 4 1 ∷ [])) 1 (axis 4 8 false false)
    ∷ answers eight (Begin 4 2) 0 ∷ shows (eight ++ (Begin 3 2 ∷ [])) 2 (axis 3 1 false false)
    -- an inner end restores the outer lock
    ∷ shows (Begin 4 1 ∷ Begin 4 1 ∷ End 4 1 ∷ []) 1 (axis 4 1 false false) ∷ shows (eight ++ (End 4 1 ∷ [])) 1 (axis 4 7 false false)
    ∷ shows (Begin 4 1 ∷ Begin 4 1 ∷ End 4 1 ∷ End 4 1 ∷ []) 1 free
    -- a holder that leaves the view loses all its locks, every depth on every axis; those of others stay
    ∷ shows (Begin 4 1 ∷ Begin 4 1 ∷ Begin 4 2 ∷ Begin 3 3 ∷ View 7 ∷ []) 1 free
    ∷ shows (Begin 4 1 ∷ Begin 4 1 ∷ Begin 4 2 ∷ Begin 3 3 ∷ View 7 ∷ []) 2 free
    ∷ shows (Begin 4 1 ∷ Begin 4 1 ∷ Begin 4 2 ∷ Begin 3 3 ∷ View 7 ∷ []) 3 (axis 3 1 false false)
    -- for good: a later view that has it again does not bring them back
    ∷ shows (Begin 4 1 ∷ Begin 4 1 ∷ View 7 ∷ View 15 ∷ []) 1 free ∷ answers (Begin 4 1 ∷ View 7 ∷ View 15 ∷ []) (End 4 1) 21 ∷ []

-- ---- moves

abbrev pub move_cases : List Bool
move_cases =
    -- the holder starts moves, and the axis reports each one finished
    shows moves 1 (axis 4 1 true false) ∷ shows (moves ++ (Finished 1 ∷ [])) 1 (axis 4 1 false false)
    ∷ shows (moves ++ (Finished 1 ∷ Start 4 1 ∷ [])) 1 (axis 4 1 true false)
    ∷ shows (moves ++ (Finished 1 ∷ Start 4 1 ∷ Finished 1 ∷ [])) 1 (axis 4 1 false false)
    -- abort by any present module during an unfinished move makes the axis stopping: here by another, by the holder, and after an end
    ∷ shows stops 1 (axis 4 1 true true) ∷ shows (moves ++ (Abort 4 1 ∷ [])) 1 (axis 4 1 true true)
    ∷ shows (moves ++ (End 4 1 ∷ Abort 2 1 ∷ [])) 1 (axis 0 0 true true)
    -- and the stop report ends the move and every depth
    ∷ shows (stops ++ (Stopped 1 ∷ [])) 1 free ∷ shows (Begin 4 1 ∷ Begin 4 1 ∷ Start 4 1 ∷ Abort 2 1 ∷ Stopped 1 ∷ []) 1 free
    ∷ shows (stops ++ (Stopped 1 ∷ Begin 3 1 ∷ [])) 1 (axis 3 1 false false)
    -- an axis has at most one unfinished move: a start during it joins it, so that one report ends it
    ∷ shows (moves ++ (Start 4 1 ∷ [])) 1 (axis 4 1 true false) ∷ shows (moves ++ (Start 4 1 ∷ Finished 1 ∷ [])) 1 (axis 4 1 false false)
    ∷ shows (moves ++ (Start 4 1 ∷ Abort 2 1 ∷ Stopped 1 ∷ [])) 1 free
    -- and neither an end nor a lost lock stops it
    ∷ shows (moves ++ (End 4 1 ∷ [])) 1 (axis 0 0 true false) ∷ shows (moves ++ (View 7 ∷ [])) 1 (axis 0 0 true false)
    ∷ shows (stops ++ (View 7 ∷ [])) 1 (axis 0 0 true true)
    -- on a stopping axis a finish report changes nothing: the stop report is still to come
    ∷ shows (stops ++ (Finished 1 ∷ [])) 1 (axis 4 1 true true) ∷ shows (stops ++ (Finished 1 ∷ Stopped 1 ∷ [])) 1 free
    -- an abort or report with nothing to stop or finish changes nothing
    ∷ shows (Abort 2 1 ∷ []) 1 free ∷ shows (Begin 4 1 ∷ Abort 2 1 ∷ []) 1 (axis 4 1 false false)
    ∷ shows (moves ++ (Finished 1 ∷ Abort 2 1 ∷ [])) 1 (axis 4 1 false false) ∷ shows (stops ++ (Abort 2 1 ∷ [])) 1 (axis 4 1 true true)
    ∷ shows (Finished 1 ∷ []) 1 free ∷ shows (Begin 4 1 ∷ Finished 1 ∷ []) 1 (axis 4 1 false false)
    -- or a stop report on an axis not stopping
    ∷ shows (Stopped 1 ∷ []) 1 free ∷ shows (Begin 4 1 ∷ Stopped 1 ∷ []) 1 (axis 4 1 false false)
    ∷ shows (moves ++ (Stopped 1 ∷ [])) 1 (axis 4 1 true false)
    -- what comes on one axis is nothing to another
    ∷ shows (moves ++ (Finished 2 ∷ Abort 2 2 ∷ [])) 1 (axis 4 1 true false) ∷ shows (stops ++ (Stopped 2 ∷ [])) 1 (axis 4 1 true true) ∷ []

-- ---- the joystick is live exactly if

abbrev pub joystick_cases : List Bool
joystick_cases =
    -- the history leaves no lock that was neither ended nor lost
    joystick [] true ∷ joystick (Begin 4 1 ∷ []) false ∷ joystick (Begin 4 8 ∷ []) false
    ∷ joystick (Begin 4 1 ∷ End 4 1 ∷ []) true ∷ joystick (Begin 4 1 ∷ Begin 4 1 ∷ End 4 1 ∷ []) false
    ∷ joystick (Begin 4 1 ∷ View 7 ∷ []) true ∷ joystick (Begin 4 1 ∷ View 7 ∷ View 15 ∷ []) true
    ∷ joystick (Begin 4 1 ∷ View 11 ∷ []) false ∷ joystick (Begin 4 1 ∷ Begin 3 2 ∷ View 7 ∷ []) false
    -- (an unfinished move alone leaves it live)
    ∷ joystick (moves ++ (End 4 1 ∷ [])) true ∷ joystick (moves ++ (View 7 ∷ [])) true
    -- and no axis stopping, with locks or without
    ∷ joystick stops false ∷ joystick (moves ++ (End 4 1 ∷ Abort 2 1 ∷ [])) false ∷ joystick (stops ++ (View 7 ∷ [])) false
    ∷ joystick (stops ++ (View 7 ∷ Finished 1 ∷ [])) false ∷ joystick (stops ++ (Stopped 1 ∷ [])) true ∷ []

-- ---- the checks, in that order

abbrev pub refusal_cases : List Bool
refusal_cases =
    -- 19 for an axis out of range
    answers [] (Begin 4 0) 19 ∷ answers [] (Begin 4 9) 19 ∷ answers [] (End 4 9) 19 ∷ answers [] (Start 4 9) 19 ∷ answers [] (Abort 4 9) 19
    ∷ answers [] (Finished 0) 19 ∷ answers [] (Finished 9) 19 ∷ answers [] (Stopped 0) 19 ∷ answers [] (Stopped 9) 19
    -- or a module out of range
    ∷ answers [] (Begin 0 1) 19 ∷ answers [] (Begin 5 1) 19 ∷ answers [] (End 5 1) 19 ∷ answers [] (Start 5 1) 19 ∷ answers [] (Abort 5 1) 19
    ∷ answers [] (View 16) 19 ∷ answers [] (View 15) 0
    -- or a module not in the view
    ∷ answers (View 7 ∷ []) (Begin 4 1) 19 ∷ answers (View 7 ∷ []) (End 4 1) 19 ∷ answers (View 7 ∷ []) (Start 4 1) 19
    ∷ answers (moves ++ (View 7 ∷ [])) (Abort 4 1) 19 ∷ answers (View 7 ∷ View 15 ∷ []) (Begin 4 1) 0
    -- 20 for a begin, end or start on an axis held by another
    ∷ answers (Begin 4 1 ∷ []) (Begin 3 1) 20 ∷ answers (Begin 4 1 ∷ []) (End 3 1) 20 ∷ answers (Begin 4 1 ∷ []) (Start 3 1) 20
    ∷ answers (Begin 4 1 ∷ []) (Begin 3 2) 0
    -- or stopping; an abort and the reports are not refused for either
    ∷ answers stops (Begin 4 1) 20 ∷ answers stops (End 4 1) 20 ∷ answers stops (Start 4 1) 20
    ∷ answers stops (Abort 3 1) 0 ∷ answers stops (Finished 1) 0 ∷ answers stops (Stopped 1) 0
    -- 21 for a ninth depth
    ∷ answers eight (Begin 4 1) 21 ∷ answers (eight ++ (End 4 1 ∷ [])) (Begin 4 1) 0
    -- or an end or start without a begin
    ∷ answers [] (End 4 1) 21 ∷ answers [] (Start 4 1) 21 ∷ answers (Begin 4 1 ∷ End 4 1 ∷ []) (End 4 1) 21
    ∷ answers (moves ++ (End 4 1 ∷ [])) (Start 4 1) 21
    -- in that order: 19 before 20
    ∷ answers (Begin 3 1 ∷ View 7 ∷ []) (Begin 4 1) 19 ∷ answers (stops ++ (View 7 ∷ [])) (End 4 1) 19
    -- 19 before 21
    ∷ answers (View 7 ∷ []) (End 4 1) 19 ∷ answers [] (Start 4 9) 19
    -- 20 before 21
    ∷ answers eight (Begin 3 1) 20 ∷ answers (eight ++ (Start 4 1 ∷ Abort 2 1 ∷ [])) (Begin 4 1) 20
    ∷ answers (moves ++ (End 4 1 ∷ Abort 2 1 ∷ [])) (End 4 1) 20 ∷ answers (moves ++ (End 4 1 ∷ Abort 2 1 ∷ [])) (Start 4 1) 20 ∷ []

-- the whole table
abbrev pub cases : List Bool
cases = lock_cases ++ (move_cases ++ (joystick_cases ++ refusal_cases))

-- what is claimed: every line is right
abbrev pub CasesRight : Type 0
CasesRight = every_line cases ≡ true
