-- A score that only whole charges go into is their number: nothing of it is ever rounded away.
use mathlib.Core.Path.{◌≡◌, refl, sym, ap, ◌∙◌, subst}
use mathlib.Core.Bool.{Bool, true, false, cond}
use Prim.Native.Nat.{ℕ, zero, suc, ◌+◌, ◌<◌, ◌≤◌}
use native.Mathlib.Omega.{arith}
use lib.Ieee.{Float, binary64, mul, lt}
use Rattle.words.specs.Bits.{bit}
use Rattle.doubles.specs.Double.{double}
use Rattle.doubles.specs.Array.{entry}
use Rattle.doubles.proofs.Whole.{add-double, mul-double, mul-nothing, double-limited}
use Rattle.setup.specs.Limits.{limit_fits}
use Rattle.setup.specs.declared.Setup.{Setup}
use Rattle.setup.specs.declared.Limits.TheVariants.{Fading}
use Rattle.accounts.specs.declared.Account.{Account}
use Rattle.accounts.specs.declared.Counters.{Counters}
use Rattle.accounts.specs.Account.{awaited}
use Rattle.accounts.specs.Fading.{scored, next_score, judged_by, faded}
use Rattle.accounts.specs.Round.{account_at}
use Rattle.accounts.specs.TakenBack.{counters_after}
use Rattle.accounts.specs.Charges.{NoneCharged, charges_by, Charges}
use Rattle.setup.proofs.BoundLaws.{limit-non-negative, limit-least, limit-most}
use Rattle.accounts.proofs.AwaitedLaws.{awaited-both}
use Rattle.accounts.proofs.RoundLaws.{accounted-at, fading-at}

-- a score that is the whole number n, on the side of the limit that the view says; below the limit there are at most 1,000,000 charges
record ChargedBy (limit : Float) (n : ℕ) (a : Account) : Type 0 where
  pub score : a.score ≡ double n
  pub small : n ≤ 1000001
  pub side : a.present ≡ lt (double n) limit

-- a factor by which a good round leaves `kept` of the charges, and no more than there were
module _ (factor limit : Float) (kept : ℕ → ℕ) (lf : limit_fits limit ≡ true) (less : (n : ℕ) → kept n ≤ n)
    (good : (n : ℕ) → n ≤ 1000000 → mul binary64 (double n) factor ≡ double (kept n)) where
  -- ---- one module

  next-whole : (h : Bool) (n : ℕ) → n ≤ 1000000 → next_score factor h (double n) ≡ double (cond h (kept n) (n + 1))
  unfolding next_score
  next-whole true n l = good n l
  next-whole false n l = add-double n (omega arith)

  next_small : (h : Bool) (n : ℕ) → n ≤ 1000000 → cond h (kept n) (n + 1) ≤ 1000001
  next_small true n l = omega (arith, less n)
  next_small false n l = omega arith

  one-round : (q : ℕ) (h : Bool) (a : Account) (n : ℕ) → ChargedBy limit n a
      → (let b = faded factor limit q h a in ChargedBy limit (cond a.present (cond h (kept n) (n + 1)) (cond b.present 0 n)) b)
  unfolding faded
  one-round q h a n x = go a.present refl
    where
      next : Float
      next = next_score factor h a.score

      go : (b : Bool) → a.present ≡ b
          → (let t = cond b (judged_by limit next) (awaited (scored true (double 0) 0) (scored false a.score) q h a.returns) in
          ChargedBy limit (cond b (cond h (kept n) (n + 1)) (cond t.present 0 n)) t)
      go true p =
          let l : n ≤ 1000000 = double-limited limit n (omega (arith, x.small)) (limit-non-negative limit lf) (sym x.side ∙ p) (limit-most limit lf) in
          let e : next ≡ double (cond h (kept n) (n + 1)) = ap (next_score factor h) x.score ∙ next-whole h n l in
          record { score = e; small = next_small h n l; side = ap (λ (y : Float). lt y limit) e }
      go false p =
          awaited-both (scored true (double 0) 0) (scored false a.score) q h a.returns (λ t. ChargedBy limit (cond t.present 0 n) t)
          (record { score = refl; small = omega arith; side = sym (limit-least limit lf) })
          (λ k. record { score = x.score; small = x.small; side = sym p ∙ x.side })

  -- ---- round after round

  module _ (s : Setup) (health : ℕ → ℕ) (c : Counters) (form : s.limits ≡ Fading factor limit) (few : s.n ≤ 16) (none : NoneCharged s c)
      (j : ℕ) (hj : j < s.n) where
    round : (k : ℕ) → account_at (counters_after s health c (suc k)) j
        ≡ faded factor limit s.q (bit (health (suc k)) j) (account_at (counters_after s health c k) j)
    unfolding counters_after
    round k =
        accounted-at s (health (suc k)) (counters_after s health c k) few j hj
        ∙ fading-at s factor limit form (health (suc k)) (counters_after s health c k) j

    charged-by : (k : ℕ) → ChargedBy limit (charges_by kept s health c k j) (account_at (counters_after s health c k) j)
    unfolding charges_by account_at counters_after
    charged-by zero = record { score = none.score j hj; small = omega arith; side = none.view j hj ∙ sym (limit-least limit lf) }
    charged-by (suc k) =
        let a = account_at (counters_after s health c k) j in
        let n = charges_by kept s health c k j in
        let h = bit (health (suc k)) j in
        subst (λ (b : Account). ChargedBy limit (cond a.present (cond h (kept n) (n + 1)) (cond b.present 0 n)) b) (sym (round k))
        (one-round s.q h a n (charged-by k))

    score-is : (k : ℕ) → entry (counters_after s health c k).score j ≡ double (charges_by kept s health c k j)
    unfolding account_at
    score-is k = (charged-by k).score

pub charges : Charges
charges = record {
  exact = λ s limit health c k j form lf few none hj. score-is (double 1) limit (λ n. n) lf (λ n. omega arith) (λ n l. mul-double n (omega arith))
      s health c form few none j hj k;
  recent = λ s limit health c k j form lf few none hj. score-is (double 0) limit (λ n. 0) lf (λ n. omega arith) (λ n l. mul-nothing n (omega arith))
      s health c form few none j hj k;
}
