-- The incident that the project exists for, as a worked case that the checker computes in proofs/Incident.antt. The joystick card,
-- module 4, holds a nested scan of axis 1, and a move is unfinished, when its plug comes loose: modules 1 and 3 hear nothing of it in
-- rounds 1 to 3, module 2 does. All cards strike it off after round 3, module 2 too; then module 1 aborts the move and the axis
-- reports that it has stopped.
use Rattle.std.specs.Prelude.{ℕ, ◌-◌, Bool, true, false, not, ◌&&◌, ◌||◌, List, [], ◌∷◌, ◌++◌, eqb, leb, get_or}
use Rattle.agreement.specs.Session.{Session, state}
use Rattle.agreement.specs.Stars.{Case, test, sheet, session, bound, kept_to, views}
use Rattle.scanlock.specs.History.{live}
use Rattle.scanlock.specs.declared.Event.{Event}
use Rattle.scanlock.specs.declared.Event.TheVariants.{Begin, Start, Abort, Stopped}
use Rattle.presence.specs.Shown.{shown_view}
use Rattle.lockcalls.specs.Cards.{history}

-- the sheet's setup; the rows that were sent in rounds 1, 2 and 3
abbrev pub loose_plug : Session
loose_plug =
    session sheet (λ k i j. not (leb k 3 && (eqb i 0 || eqb i 2) && eqb j 3))
    (λ k j. get_or (get_or ((15 ∷ 15 ∷ 15 ∷ 15 ∷ []) ∷ (7 ∷ 15 ∷ 7 ∷ 15 ∷ []) ∷ (5 ∷ 13 ∷ 5 ∷ 13 ∷ []) ∷ []) (k - 1) []) j 15)

-- what a card's scan lock was handed after round k, with these events after the step of round 3
abbrev pub handed_lock : List Event → ℕ → ℕ → List Event
handed_lock late i k =
    history (λ r. get_or ((Start 4 1 ∷ Begin 4 1 ∷ Begin 4 1 ∷ []) ∷ [] ∷ [] ∷ late ∷ []) r []) (λ r. shown_view (state loose_plug i r)) k

-- on the cards of modules 1 and 2
abbrev pub joysticks : List Event → ℕ → Bool → List Case
joysticks late k says = test (live 4 (handed_lock late 0 k)) says ∷ test (live 4 (handed_lock late 1 k)) says ∷ []

-- what the definitions give, and what is to be: the session is bound and within the limit, the views, and the joysticks round by round
abbrev pub incident : List Case
incident =
    test (bound loose_plug 3) true ∷ test (kept_to loose_plug 3) true
    ∷ views loose_plug 2 1111 ++ (views loose_plug 3 1110
    -- held by the joystick card in rounds 1 and 2
    ++ (joysticks [] 1 false ++ (joysticks [] 2 false
    -- its locks are lost on both cards in round 3, though the move goes on
    ++ (joysticks [] 3 true
    -- the abort makes the axis stopping, and the stop report ends that
    ++ (joysticks (Abort 1 1 ∷ []) 3 false ++ joysticks (Stopped 1 ∷ Abort 1 1 ∷ []) 3 true)))))
