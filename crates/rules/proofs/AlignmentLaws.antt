-- Rule 3: after alignment an entry, its controller bit and its row, is wholly of one read.
use mathlib.Core.Path.{◌≡◌, refl, ap, ◌∙◌}
use mathlib.Core.List.{List}
use mathlib.Core.Bool.{Bool, true, false, cond}
use Prim.Native.Nat.{ℕ, ◌≤◌, ◌<◌, zero-le}
use lib.ListN.{get_or}
use lib.Dec.{ltb}
use borrow.Author.Tests.{le-ltb}
use Rattle.words.specs.Bits.{bit, pack}
use Rattle.words.specs.Array.{array}
use Rattle.words.proofs.Truth.{cond-false}
use Rattle.words.proofs.BitLaws.{bit-pack, pack-ext}
use Rattle.words.proofs.ArrayLaws.{array_at, array-ext}
use Rattle.rules.specs.Alignment.{from_previous, aligned_of}
use Rattle.rules.specs.declared.Reading.{Reading}

module _ (n : ℕ) (skew : Bool) (place : ℕ) (previous this : Reading) (j : ℕ) (h : j < n) where
  pub aligned-heard : bit (aligned_of n skew place previous this).heard j
      ≡ cond (from_previous skew place j) (bit previous.heard j) (bit this.heard j)
  unfolding aligned_of
  aligned-heard = bit-pack n _ j h

  pub aligned-row : n ≤ 16 → get_or (aligned_of n skew place previous this).rows j 0
      ≡ cond (from_previous skew place j) (get_or previous.rows j 0) (get_or this.rows j 0)
  unfolding aligned_of
  aligned-row small = array_at n _ j h small

-- ---- as code aligns

module _ (n : ℕ) (skew : Bool) (place : ℕ) (previous this : Reading) where
  -- entries below `split` from the previous read
  abbrev split_at : ℕ → Reading
  split_at split = record {
    heard = pack n (λ j. cond (ltb j split) (bit previous.heard j) (bit this.heard j));
    rows = array n (λ j. cond (ltb j split) (get_or previous.rows j 0) (get_or this.rows j 0));
  }

  split-aligned : (s : Bool) → split_at (cond s place 0) ≡ aligned_of n s place previous this
  unfolding aligned_of
  split-aligned true = refl
  split-aligned false = λ i. record {
    heard =
        pack-ext n (λ j. cond (ltb j 0) (bit previous.heard j) (bit this.heard j)) (bit this.heard)
        (λ j h. cond-false _ _ (le-ltb j 0 zero-le)) i;
    rows =
        array-ext n (λ j. cond (ltb j 0) (get_or previous.rows j 0) (get_or this.rows j 0)) (λ j. get_or this.rows j 0)
        (λ j h. cond-false _ _ (le-ltb j 0 zero-le)) i;
  }

  -- one number is enough: the read place, or 0 where reads are not skewed
  pub aligned-by : {split heard : ℕ} {rows : List ℕ} → split ≡ cond skew place 0
      → heard ≡ pack n (λ j. cond (ltb j split) (bit previous.heard j) (bit this.heard j))
      → rows ≡ array n (λ j. cond (ltb j split) (get_or previous.rows j 0) (get_or this.rows j 0))
      → ◌≡◌ {A = Reading} (record { heard = heard; rows = rows }) (aligned_of n skew place previous this)
  aligned-by e eh er = (λ i. record { heard = eh i; rows = er i }) ∙ ap split_at e ∙ split-aligned skew
