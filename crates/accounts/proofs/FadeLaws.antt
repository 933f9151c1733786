-- Rule 8 by fading scores keeps the score of a module a number from 0 up, on the side of the limit that its view says, and the code picks what the
-- definition has.
use mathlib.Core.Path.{◌≡◌, refl, sym, ap, ◌∙◌}
use mathlib.Core.Bool.{Bool, true, false, cond, not, ◌&&◌, ◌||◌}
use Prim.Native.Nat.{ℕ, ◌+◌, ◌-◌, ◌≤◌}
use lib.Dec.{eqb, ltb}
use lib.Ieee.{Float, binary64, add, mul, lt, of_bits}
use lib.Ieee.Fits.{add-fits, mul-fits}
use Rattle.words.proofs.Truth.{cond_both}
use Rattle.doubles.specs.Double.{double, non_negative, is_double}
use Rattle.doubles.proofs.DoubleLaws.{holds}
use Rattle.doubles.proofs.Rounding.{double-zero, zero_bits, one-bits, add-non-negative, mul-non-negative}
use Rattle.doubles.proofs.Whole.{double-fits}
use Rattle.setup.specs.Limits.{factor_fits, limit_fits}
use Rattle.accounts.specs.declared.Account.{Account}
use Rattle.accounts.specs.Account.{awaited}
use Rattle.accounts.specs.Fading.{scored, next_score, judged_by, faded}
use Rattle.setup.proofs.BoundLaws.{factor-non-negative, factor-most, limit-non-negative, limit-least, limit-most}
use Rattle.accounts.proofs.AwaitedLaws.{CountFits, none-counted, awaited-both, awaited-by, awaited-counts}

-- what `awaited` chooses from: the account where the module returns, the one with a return count where it does not
abbrev back : Account
back = scored true (double 0) 0

abbrev away : Account → ℕ → Account
away a = scored false a.score

-- an account as rounds from opening on leave it; of its return count see AwaitedLaws
pub record FadeFits (limit : Float) (a : Account) : Type 0 where
  pub score : non_negative a.score ≡ true
  pub view : a.present ≡ lt a.score limit
  pub exact : is_double a.score ≡ true
  pub penalty : a.penalty ≡ 0
  pub reward : a.reward ≡ 0

-- every score that a round gives is a double
next-exact : (factor : Float) (healthy : Bool) (x : Float) → is_double (next_score factor healthy x) ≡ true
unfolding next_score
next-exact factor true x = holds _ (mul-fits binary64 x factor)
next-exact factor false x = holds _ (add-fits binary64 x (double 1))

pub nothing-non-negative : non_negative (double 0) ≡ true
unfolding non_negative
nothing-non-negative = ap non_negative double-zero

module _ (factor limit : Float) (ff : factor_fits factor ≡ true) (lf : limit_fits limit ≡ true) where
  -- from a score below the limit a round leads to a number from 0 up
  next-non-negative : (healthy : Bool) (x : Float) → non_negative x ≡ true → lt x limit ≡ true → non_negative (next_score factor healthy x) ≡ true
  unfolding next_score
  next-non-negative true x n l =
      mul-non-negative x limit factor n (limit-non-negative limit lf) (factor-non-negative factor ff) l (limit-most limit lf) (factor-most factor ff)
  next-non-negative false x n l = add-non-negative x limit n (limit-non-negative limit lf) l (limit-most limit lf)

  pub faded-fits : (q : ℕ) (healthy : Bool) (a : Account) → FadeFits limit a → FadeFits limit (faded factor limit q healthy a)
  unfolding faded
  faded-fits q healthy a f = go a.present refl
    where
      go : (b : Bool) → a.present ≡ b
          → FadeFits limit (cond b (judged_by limit (next_score factor healthy a.score)) (awaited back (away a) q healthy a.returns))
      go true e =
          record {
            score = next-non-negative healthy a.score f.score (sym f.view ∙ e);
            view = refl;
            exact = next-exact factor healthy a.score;
            penalty = refl;
            reward = refl;
          }
      go false e =
          awaited-both back (away a) q healthy a.returns (FadeFits limit)
          (record {
            score = nothing-non-negative;
            view = sym (limit-least limit lf);
            exact = holds _ (double-fits 0);
            penalty = refl;
            reward = refl;
          })
          (λ k. record { score = f.score; view = sym e ∙ f.view; exact = f.exact; penalty = refl; reward = refl })

-- ---- whatever the account was

abbrev pub OwesNothing : Account → Type 0
OwesNothing a = (a.penalty ≡ 0) × (a.reward ≡ 0)

module _ (factor limit : Float) (q : ℕ) (healthy : Bool) (a : Account) where
  -- its return count fits
  pub faded-counts : CountFits q (faded factor limit q healthy a)
  unfolding faded
  faded-counts =
      cond_both (CountFits q) a.present _ _ (none-counted q _ refl)
      (awaited-counts back (away a) q healthy a.returns refl (λ k. refl) (λ k. refl))

  -- its score is a double if it was
  pub faded-exact : is_double a.score ≡ true → is_double (faded factor limit q healthy a).score ≡ true
  unfolding faded
  faded-exact e =
      cond_both (λ (x : Account). is_double x.score ≡ true) a.present _ _ (next-exact factor healthy a.score)
      (awaited-both back (away a) q healthy a.returns (λ (x : Account). is_double x.score ≡ true) (holds _ (double-fits 0)) (λ k. e))

  -- it has no penalty and no reward
  pub faded-owes : OwesNothing (faded factor limit q healthy a)
  unfolding faded
  faded-owes =
      cond_both OwesNothing a.present _ _ (refl, refl) (awaited-both back (away a) q healthy a.returns OwesNothing (refl, refl) (λ k. (refl, refl)))

-- ---- rule 8 by picks, without a branch: x, y, z and w are what the picks give

or-false : (b : Bool) → b || false ≡ b
or-false true = refl
or-false false = refl

pub fade-by : {x y z : Float} {w : ℕ} (factor limit : Float) (q : ℕ) (h : Bool) (a : Account) → a.returns ≤ q - 1
    → x ≡ cond h (mul binary64 a.score factor) (add binary64 a.score (of_bits binary64 0x3ff0000000000000))
    → y ≡ cond ((not a.present && h) && eqb (a.returns + 1) q) (of_bits binary64 0) a.score
    → z ≡ cond a.present x y
    → w ≡ cond ((not a.present && h) && ltb (a.returns + 1) q) (a.returns + 1) 0
    → record {
      present = (a.present && lt x limit) || ((not a.present && h) && eqb (a.returns + 1) q);
      penalty = 0;
      reward = 0;
      score = z;
      returns = w;
    } ≡ faded factor limit q h a
unfolding faded next_score
fade-by factor limit q h a below ex ey ez ew = rw (ez, ew, ey, ex, zero_bits, one-bits) (go a.present)
  where
    next : Float
    next = cond h (mul binary64 a.score factor) (add binary64 a.score (double 1))

    go : (b : Bool) → (let t = (not b && h) && eqb (a.returns + 1) q in
        scored ((b && lt next limit) || t) (cond b next (cond t (double 0) a.score)) (cond ((not b && h) && ltb (a.returns + 1) q) (a.returns + 1) 0))
        ≡ cond b (judged_by limit next) (awaited back (away a) q h a.returns)
    go true = λ i. scored (or-false (lt next limit) i) next 0
    go false =
        awaited-by back (away a) q h a.returns (λ t s x. scored t (cond t (double 0) a.score) (cond s (a.returns + 1) 0) ≡ x) below
        refl refl refl
