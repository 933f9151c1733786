-- What a score is where it counts charges alone: with factor 1.0 the charges taken in the view since opening or the last return, with factor 0.0 those
-- since the last good round. (document 02, E9) Proved in proofs/Charges.antt.
use Rattle.std.specs.Prelude.{ℕ, zero, suc, ◌+◌, ◌≤◌, ◌<◌, ◌≡◌, true, cond, Float}
use Rattle.words.specs.Bits.{bit}
use Rattle.doubles.specs.Double.{double}
use Rattle.doubles.specs.Array.{entry}
use Rattle.setup.specs.Limits.{limit_fits}
use Rattle.setup.specs.declared.Setup.{Setup}
use Rattle.setup.specs.declared.Limits.TheVariants.{Fading}
use Rattle.accounts.specs.TakenBack.{counters_after, in_view_after}
use Rattle.accounts.specs.declared.Counters.{Counters}

-- as a module is opened: everybody in the view with score 0.0
pub record NoneCharged (s : Setup) (c : Counters) : Type 0 where
  pub view : (j : ℕ) → j < s.n → bit c.view j ≡ true
  pub score : (j : ℕ) → j < s.n → entry c.score j ≡ double 0

-- How many charges module j + 1 has taken after k rounds, counted from opening or its last return on. A round in which it is in the view and has
-- health 0 is one; with health 1 there are as many as `kept` of those before. Out of the view nothing is counted, and a return begins anew.
unfoldable pub charges_by : (ℕ → ℕ) → Setup → (ℕ → ℕ) → Counters → ℕ → ℕ → ℕ
charges_by kept s health c zero j = 0
charges_by kept s health c (suc k) j =
    let before = charges_by kept s health c k j in
    cond (in_view_after s health c k j) (cond (bit (health (suc k)) j) (kept before) (before + 1))
    (cond (in_view_after s health c (suc k) j) 0 before)

-- all of them
abbrev pub charges_after : Setup → (ℕ → ℕ) → Counters → ℕ → ℕ → ℕ
charges_after = charges_by (λ before. before)

-- those since the last good round
abbrev pub recent_charges : Setup → (ℕ → ℕ) → Counters → ℕ → ℕ → ℕ
recent_charges = charges_by (λ before. 0)

-- of every setup of at most 16 modules whose limit is accepted, every history from opening on, and every module j + 1
pub record Charges : Type 0 where
  -- with factor 1.0 the score is exactly the number of charges
  pub exact : (s : Setup) (limit : Float) (health : ℕ → ℕ) (c : Counters) (k j : ℕ) → s.limits ≡ Fading (double 1) limit → limit_fits limit ≡ true
      → s.n ≤ 16 → NoneCharged s c → j < s.n → entry (counters_after s health c k).score j ≡ double (charges_after s health c k j)
  -- with factor 0.0 the number of charges since the last good round
  pub recent : (s : Setup) (limit : Float) (health : ℕ → ℕ) (c : Counters) (k j : ℕ) → s.limits ≡ Fading (double 0) limit → limit_fits limit ≡ true
      → s.n ≤ 16 → NoneCharged s c → j < s.n → entry (counters_after s health c k).score j ≡ double (recent_charges s health c k j)
