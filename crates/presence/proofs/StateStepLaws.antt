-- What an opening and a step answer: accepted, what they give; refused, that the state stays. An accepted call gives a valid state.
use mathlib.Core.Path.{◌≡◌, refl, ap, ap₂, ◌∙◌, sym, subst}
use mathlib.Core.Bool.{Bool, true, false, cond}
use mathlib.Core.Logic.{◌≢◌}
use mathlib.Core.List.{List}
use Prim.Native.Nat.{ℕ, ◌^◌, ◌<◌, ◌≤◌}
use native.Mathlib.Omega.{arith}
use lib.ListN.{length}
use lib.Dec.{eqb, ltb}
use borrow.Author.Tests.{eq-eqb, eqb-true, eqb-false, lt-ltb}
use Rattle.words.specs.Count.{lowest}
use Rattle.words.proofs.Truth.{cond_both, cond-true}
use Rattle.words.specs.Verdict.{accepted, is_accepted, between, single, and_then, outcome, then_tests}
use Rattle.words.specs.Verdict.{Verdict}
use Rattle.words.proofs.VerdictLaws.{between_is, between-of, and-then-next, and-then-pass, single-ok, single-pass}
use Rattle.setup.specs.Setup.{blank_setup}
use Rattle.setup.specs.Check.{head_fits, room_verdict, setup_verdict}
use Rattle.setup.specs.declared.Setup.{Setup}
use Rattle.setup.proofs.SetupLaws.{SetupFits, verdict-fits, fits-verdict as setup-accepted}
use Rattle.rules.specs.Hearing.{word_heard, reading_of, causes_of}
use Rattle.rules.specs.Lag.{skewed}
use Rattle.rules.specs.Syndrome.{outgoing_of}
use Rattle.changes.specs.Books.{counted, books_after}
use Rattle.changes.proofs.TurnLaws.{turned-size, turned-places}
use Rattle.presence.specs.Valid.{state_verdict, Valid}
use Rattle.presence.specs.Opening.{fresh, blank, check_opening, open_of}
use Rattle.presence.specs.Step.{skew_of, mark_of, read_length, seen_by, own_syndrome, books_of, judgement_for, outgoing_for, after_round, refused_step, accepted_step, read_step, step_of}
use Rattle.rules.specs.declared.Reading.{Reading}
use Rattle.presence.specs.declared.State.{State}
use Rattle.presence.specs.Opening.{Opened}
use Rattle.presence.specs.Step.{Stepped}
use Rattle.rules.proofs.ReceptionLaws.{bus-heard}
use Rattle.rules.proofs.SyndromeLaws.{syndrome-lt}
use Rattle.presence.proofs.ValidLaws.{StateFits, valid-fits, fits-verdict, fits-valid, fresh-fits, after-fits}

-- ---- rules 4, 7 and 9

-- An empty vote of the next step falls back on the syndrome of one step before the last where u is 1, else on that of the last.
pub own-after : (st : State) (this : Reading) (seen : List ℕ)
    → own_syndrome (after_round st this seen) ≡ cond (skew_of st) st.latest (judgement_for st this).syndrome
unfolding own_syndrome after_round books_after counted
own-after st this seen =
    ap₂ (λ (n : ℕ) (places : List ℕ). cond (skewed n places) st.latest (judgement_for st this).syndrome) (turned-size (books_of st)) (turned-places (books_of st))

-- N stays
pub after-size : (st : State) (this : Reading) (seen : List ℕ) → (after_round st this seen).setup.n ≡ st.setup.n
unfolding after_round books_after counted
after-size st this seen = turned-size (books_of st)

-- A valid state hands out no word that a receiver would not hear.
pub outgoing-heard : (st : State) (this : Reading) → StateFits st → word_heard st.setup.n (outgoing_for st this) ≡ true
unfolding outgoing_for outgoing_of judgement_for
outgoing-heard st this f =
    bus-heard st.setup.n _ f.setup.most
    (cond_both (λ v. v < 2 ^ st.setup.n) (mark_of st) st.latest _ f.latest (syndrome-lt st.setup.n _ _ _))

-- ---- the step

-- a valid state, N or 2N read words and no controller bit at N or above
pub step-accepts : (st : State) (read : List ℕ) (controller : ℕ) → StateFits st → length read ≡ read_length st → controller < 2 ^ st.setup.n
    → step_of st read controller ≡ accepted_step st (reading_of st.setup.n read controller) (seen_by st read controller) (causes_of st.setup.n read controller)
unfolding step_of read_step
step-accepts st read controller f l h =
    cond-true _ _ (ap is_accepted (fits-verdict st f))
    ∙ cond-true _ _ (eq-eqb (length read) (read_length st) l)
    ∙ cond-true _ _ (lt-ltb controller (2 ^ st.setup.n) h)

-- by the tests of its state, its read and its controller bits
answered : State → Reading → List ℕ → List ℕ → Verdict → Bool → Bool → Bool → Stepped
answered st this seen causes v a b c =
    cond a (cond b (cond c (accepted_step st this seen causes) (refused_step st 10 0)) (refused_step st 9 0))
    (refused_step st v.number v.index)

pub step-refused : (st : State) (read : List ℕ) (controller : ℕ) → (step_of st read controller).number ≢ 0
    → (step_of st read controller).state ≡ st
unfolding step_of read_step accepted_step refused_step answered
step-refused st read controller no_zero =
    go (is_accepted v) (eqb (length read) (read_length st)) (ltb controller (2 ^ st.setup.n)) no_zero
  where
    v : Verdict
    v = state_verdict st

    this : Reading
    this = reading_of st.setup.n read controller

    seen : List ℕ
    seen = seen_by st read controller

    causes : List ℕ
    causes = causes_of st.setup.n read controller

    go : (a b c : Bool) → (answered st this seen causes v a b c).number ≢ 0 → (answered st this seen causes v a b c).state ≡ st
    go true true true h = absurd (h refl)
    go true true false h = refl
    go true false c h = refl
    go false b c h = refl

-- an accepted step is one of a valid state
pub step-accepted : (st : State) (read : List ℕ) (controller : ℕ) → (step_of st read controller).number ≡ 0
    → Valid st
    × (step_of st read controller ≡ accepted_step st (reading_of st.setup.n read controller) (seen_by st read controller) (causes_of st.setup.n read controller))
unfolding step_of read_step accepted_step refused_step answered
step-accepted st read controller zero =
    go (is_accepted v) (eqb (length read) (read_length st)) (ltb controller (2 ^ st.setup.n)) refl zero
  where
    v : Verdict
    v = state_verdict st

    this : Reading
    this = reading_of st.setup.n read controller

    seen : List ℕ
    seen = seen_by st read controller

    causes : List ℕ
    causes = causes_of st.setup.n read controller

    go : (a b c : Bool) → is_accepted v ≡ a → (answered st this seen causes v a b c).number ≡ 0
        → (v.number ≡ 0) × (answered st this seen causes v a b c ≡ accepted_step st this seen causes)
    go true true true e z = (eqb-true v.number 0 e, refl)
    go true true false e z = absurd (omega arith)
    go true false c e z = absurd (omega arith)
    go false b c e z = absurd (eqb-false v.number 0 e z)

-- with N read words, or 2N
pub step-whole : (st : State) (read : List ℕ) (controller : ℕ) → (step_of st read controller).number ≡ 0 → length read ≡ read_length st
unfolding step_of read_step refused_step
step-whole st read controller zero = eqb-true (length read) (read_length st) (go _ (is_accepted v) (eqb (length read) (read_length st)) refl zero)
  where
    v : Verdict
    v = state_verdict st

    go : (t : Stepped) (a b : Bool) → is_accepted v ≡ a → (cond a (cond b t (refused_step st 9 0)) (refused_step st v.number v.index)).number ≡ 0 → b ≡ true
    go t true true e z = refl
    go t true false e z = absurd (omega arith)
    go t false b e z = absurd (eqb-false v.number 0 e z)

-- and gives a valid state
pub step-valid : (st : State) (read : List ℕ) (controller : ℕ) → (step_of st read controller).number ≡ 0
    → Valid (step_of st read controller).state
unfolding accepted_step
step-valid st read controller zero =
    let (valid, e) = step-accepted st read controller zero in
    rw e (fits-valid _ (after-fits st read controller (valid-fits st valid)))

-- ---- opening

pub open-accepts : (s : Setup) (own : ℕ) → SetupFits s → 1 ≤ own → own ≤ s.n
    → open_of s own ≡ record { number = 0; index = 0; state = fresh s own }
unfolding open_of check_opening
open-accepts s own f h l =
    let v : check_opening s own ≡ accepted =
    and-then-next (setup_verdict s) _ (ap (λ (v : Verdict). v.number) (setup-accepted s f))
    ∙ single-ok (between 1 s.n own) 7 0 (between-of 1 s.n own h l)
    in
    rw v

-- what an accepted opening has passed
pub open-passed : (s : Setup) (own : ℕ) → (open_of s own).number ≡ 0 → SetupFits s × (1 ≤ own) × (own ≤ s.n)
unfolding open_of check_opening
open-passed s own zero =
    let (f, e) = and-then-pass (setup_verdict s) (outcome (single (between 1 s.n own) 7 0)) zero in
    let (h, l) = between_is 1 s.n own (single-pass (between 1 s.n own) 7 0 (omega arith) e) in
    (verdict-fits s f, h, l)

pub open-fresh : (s : Setup) (own : ℕ) → (open_of s own).number ≡ 0 → (open_of s own).state ≡ fresh s own
open-fresh s own zero =
    let (f, h, l) = open-passed s own zero in
    ap (λ (o : Opened). o.state) (open-accepts s own f h l)

pub open-valid : (s : Setup) (own : ℕ) → (open_of s own).number ≡ 0 → Valid (open_of s own).state
open-valid s own zero =
    let (f, h, l) = open-passed s own zero in
    subst Valid (sym (open-fresh s own zero)) (fits-valid (fresh s own) (fresh-fits s own f h l))

-- what a refused opening holds cannot be stepped
pub blank-refused : (read : List ℕ) (controller : ℕ) → step_of blank read controller ≡ refused_step blank 2 0
unfolding step_of state_verdict and_then setup_verdict room_verdict then_tests outcome lowest head_fits blank blank_setup
blank-refused read controller = refl
