-- Which change may follow: numbers 23 and 24, both with index 0. (document 02, E10; 23 covers head bit 5, E11)
use Rattle.std.specs.Prelude.{ℕ, Bool, not, ◌&&◌, [], ◌∷◌, get_or, eqb}
use Rattle.std.specs.Bool.{beq}
use Rattle.words.specs.Count.{all}
use Rattle.words.specs.Verdict.{between, single, first_refusal}
use Rattle.words.specs.Verdict.{Verdict}
use Rattle.setup.specs.Limits.{fades}
use Rattle.setup.specs.declared.Setup.{Setup}
use Rattle.changes.specs.Pending.{most_lead}
use Rattle.changes.specs.declared.Pending.{Pending}

-- neither setup fades, and all but P, R and the criticalities is the same, else number 23
unfoldable pub same_frame : Setup → Setup → Bool
same_frame s new =
    (not (fades s.limits) && not (fades new.limits))
    && (((eqb s.n new.n && eqb s.q new.q) && beq s.partitionable new.partitionable)
    && (eqb s.marks new.marks && all s.n (λ j. eqb (get_or s.places j 0) (get_or new.places j 0))))

-- nothing is pending, and the change takes effect 1 to 1,000 rounds ahead, else number 24
unfoldable pub may_follow : Pending → ℕ → Bool
may_follow c lead = eqb c.left 0 && between 1 most_lead lead

-- number 23, then 24
unfoldable pub frame_verdict : Setup → Pending → Setup → ℕ → Verdict
frame_verdict s c new lead = first_refusal (single (same_frame s new) 23 0 ∷ single (may_follow c lead) 24 0 ∷ [])
