-- A setup whose u is 0, renumbered: it is accepted, and its u is 0.
use Prim.Native.Nat.{ℕ, ◌<◌}
use mathlib.Core.Path.{◌≡◌, sym, ap, ◌∙◌, subst}
use mathlib.Core.Bool.{true, false}
use native.Mathlib.Omega.{arith}
use lib.ListN.{get_or}
use Rattle.words.specs.Bits.{bit, b2n}
use Rattle.words.specs.Verdict.{Verdict}
use Rattle.words.proofs.ArrayLaws.{array-length, array-clear}
use Rattle.setup.specs.Check.{setup_roomy, setup_verdict}
use Rattle.setup.specs.declared.Setup.{Setup}
use Rattle.setup.specs.RoundTrip.{ShapedSetup}
use Rattle.setup.proofs.SetupLaws.{SetupFits, ModuleFits, verdict-fits, fits-verdict}
use Rattle.setup.proofs.SetupWords.{roomy_of}
use Rattle.rules.specs.Lag.{skewed}
use Rattle.renumbering.specs.Renumbering.{Renumbering, array_for}
use Rattle.renumbering.specs.States.{setup_for}
use Rattle.renumbering.proofs.VectorForLaws.{vector-bit, vector-lt, array-entry}
use Rattle.renumbering.proofs.ZeroLagLaws.{skew-none, places-full, full-places, mark-none, mark-ok}

module _ (s : Setup) (π : Renumbering s.n) where
  abbrev s' : Setup
  s' = setup_for s.n π s

  pub shaped' : ShapedSetup s'
  unfolding array_for
  shaped' = record { places = array-length s.n _; criticality = array-length s.n _ }

  module _ (ok : (setup_verdict s).number ≡ 0) (zero-u : b2n (skewed s.n s.places) ≡ 0) where
    fits : SetupFits s
    fits = verdict-fits s ok

    pub straight : skewed s.n s.places ≡ false
    straight = skew-none s.n s.places zero-u

    pub marks-none : (j : ℕ) → j < s.n → bit s.marks j ≡ false
    marks-none j h = mark-none j s.n _ _ h (places-full s.n s.places straight j h) (fits.marks j h)

    pub places' : (j : ℕ) → j < s.n → get_or s'.places j 0 ≡ s.n
    places' j h =
        array-entry s.n π fits.most s.places j h ∙ places-full s.n s.places straight (π.from j) (π.from-below j h)

    pub straight' : skewed s.n s'.places ≡ false
    straight' = full-places s.n s'.places places'

    pub marks-none' : (j : ℕ) → j < s.n → bit s'.marks j ≡ false
    marks-none' j h = vector-bit s.n π s.marks j h ∙ marks-none (π.from j) (π.from-below j h)

    each' : (j : ℕ) → j < s.n → ModuleFits s.n (get_or s'.places j 0) (get_or s'.criticality j 0)
    each' j h =
        subst (λ (c : ℕ). ModuleFits s.n (get_or s'.places j 0) c) (sym (array-entry s.n π fits.most s.criticality j h))
        (subst (λ (p : ℕ). ModuleFits s.n p (get_or s.criticality (π.from j) 0)) (sym (array-entry s.n π fits.most s.places j h))
        (fits.each (π.from j) (π.from-below j h)))

    roomy' : setup_roomy s' ≡ true
    unfolding array_for
    roomy' =
        roomy_of s' (vector-lt s.n π s.marks) (array-clear s.n _) (array-clear s.n _)
        (λ j h. let m = (each' j h).within in let f = fits.most in omega arith) (λ j h. let m = (each' j h).most in omega arith)

    fits' : SetupFits s'
    fits' = record {
      least = fits.least;
      most = fits.most;
      q-most = fits.q-most;
      limits = fits.limits;
      each = each';
      roomy = roomy';
      marks = λ j h. mark-ok j _ _ (marks-none' j h);
    }

    pub accepted' : (setup_verdict s').number ≡ 0
    accepted' = ap (λ (v : Verdict). v.number) (fits-verdict s' fits')
