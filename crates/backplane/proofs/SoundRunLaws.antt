-- The states of a run stay within the limits.
use Prim.Native.Nat.{ℕ, ◌+◌, ◌<◌, ◌≤◌}
use mathlib.Core.Path.{◌≡◌, sym, ap, ◌∙◌, subst}
use mathlib.Core.Bool.{true, false}
use mathlib.Core.Logic.{⊎_elim}
use mathlib.Core.List.{List}
use native.Mathlib.Omega.{arith}
use lib.Dec.{eqb}
use lib.ListN.{length-replicate, replicate}
use borrow.Author.Tests.{eqb-true, eqb-false}
use Rattle.words.proofs.Truth.{which, cond-true, cond-false, cond_both}
use Rattle.words.proofs.TableLaws.{updated-at, updated-length}
use Rattle.words.specs.Verdict.{is_accepted}
use Rattle.setup.specs.Setup.{blank_setup}
use Rattle.setup.specs.declared.Setup.{Setup}
use Rattle.setup.proofs.SetupLaws.{SetupFits}
use Rattle.presence.specs.Valid.{Valid}
use Rattle.presence.specs.Opening.{blank, open_of}
use Rattle.presence.specs.Step.{step_of}
use Rattle.presence.specs.Opening.{Opened}
use Rattle.presence.specs.declared.State.{State}
use Rattle.presence.proofs.StateStepLaws.{open-accepts, open-valid, step-valid, step-refused}
use Rattle.script.specs.Check.{check_script}
use Rattle.script.specs.Cursor.{advanced}
use Rattle.script.specs.declared.Events.{Events}
use Rattle.backplane.specs.Play.{state_at, Sound, opened_states, opened, step_at, stepped_states, played}
use Rattle.backplane.specs.Run.{begun, idle, start_of, goes_on, next_of}
use Rattle.backplane.specs.declared.Backplane.{Backplane}
use Rattle.backplane.specs.declared.Run.{Run}
use Rattle.backplane.proofs.StartLaws.{setup-read, script-fits}

-- a step, accepted or refused, leaves a valid state
kept-valid : (st : State) (read : List ℕ) (bits : ℕ) → Valid st → Valid (step_of st read bits).state
kept-valid st read bits v =
    ⊎_elim
    (λ (t : eqb (step_of st read bits).number 0 ≡ true). step-valid st read bits (eqb-true _ 0 t))
    (λ (f : eqb (step_of st read bits).number 0 ≡ false). subst Valid (sym (step-refused st read bits (eqb-false _ 0 f))) v)
    (which (eqb (step_of st read bits).number 0))

opened-sound : (s : Setup) (cast : ℕ) → s.n ≤ 16 → ((i : ℕ) → i < s.n → Valid (open_of s (i + 1)).state) → Sound (opened s cast)
unfolding opened opened_states
opened-sound s cast h v = record {
  few = h;
  entries = updated-length s.n _ _ ∙ length-replicate {A = State} 16 (open_of s 1).state;
  valid = λ i hi.
      subst Valid (sym (updated-at s.n _ (replicate 16 (open_of s 1).state) i blank hi (rw (length-replicate {A = State} 16 (open_of s 1).state) h))) (v i hi);
}

played-sound : (b : Backplane) (e : Events) → Sound b → Sound (played b e)
unfolding played stepped_states step_at
played-sound b e h = record {
  few = h.few;
  entries = updated-length b.setup.n _ b.states ∙ h.entries;
  valid = λ i hi.
      subst Valid (sym (updated-at b.setup.n _ b.states i blank hi (rw h.entries h.few))) (kept-valid (state_at b.states i) _ _ (h.valid i hi));
}

pub begun-sound : (s : List ℕ) → (check_script s).number ≡ 0 → Sound (begun s).backplane
unfolding begun
begun-sound s e =
    let f = subst SetupFits (sym (setup-read s e)) (script-fits s e) in
    opened-sound _ _ f.most
    (λ i hi. open-valid _ (i + 1) (ap (λ (o : Opened). o.number) (open-accepts _ (i + 1) f (omega arith) (omega arith))))

idle-sound : Sound idle.backplane
unfolding idle blank_setup
idle-sound = opened-sound blank_setup 0 (omega arith) (λ i hi. absurd (omega arith))

pub start-sound : (s : List ℕ) → Sound (start_of s).run.backplane
unfolding start_of
start-sound s =
    ⊎_elim
    (λ (t : is_accepted (check_script s) ≡ true).
    subst (λ (r : Run). Sound r.backplane) (sym (cond-true (begun s) idle t)) (begun-sound s (eqb-true (check_script s).number 0 t)))
    (λ (f : is_accepted (check_script s) ≡ false). subst (λ (r : Run). Sound r.backplane) (sym (cond-false (begun s) idle f)) idle-sound)
    (which (is_accepted (check_script s)))

pub next-sound : (s : List ℕ) (r : Run) → Sound r.backplane → Sound (next_of s r).backplane
unfolding next_of
next-sound s r h =
    cond_both Sound (goes_on (advanced s r.cursor) r.backplane) _ _ (played-sound r.backplane _ h) h
