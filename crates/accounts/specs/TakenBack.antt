-- How a module comes back, over a history of health vectors, in other words than rule 8 has it round by round. (document 02, E6 and E9)
-- Proved in proofs/TakenBack.antt.
use Rattle.std.specs.Prelude.{ℕ, zero, suc, ◌+◌, ◌≤◌, ◌<◌, ◌≡◌, Bool, true, false, get_or}
use Rattle.words.specs.Bits.{bit}
use Rattle.setup.specs.declared.Setup.{Setup}
use Rattle.setup.specs.declared.Limits.TheVariants.{Counts}
use Rattle.accounts.specs.Round.{returned_by, account_at, counters_of}
use Rattle.accounts.specs.declared.Counters.{Counters}

-- the counters after k rounds, where round k has the health vector `health k`
unfoldable pub counters_after : Setup → (ℕ → ℕ) → Counters → ℕ → Counters
counters_after s health c zero = c
counters_after s health c (suc k) = counters_of s (health (suc k)) (counters_after s health c k)

-- whether module j + 1 is in the view after k rounds
abbrev pub in_view_after : Setup → (ℕ → ℕ) → Counters → ℕ → ℕ → Bool
in_view_after s health c k j = bit (counters_after s health c k).view j

-- no round towards a return is counted yet, as where a module is opened
abbrev pub NoneCounted : Setup → Counters → Type 0
NoneCounted s c = (j : ℕ) → j < s.n → get_or c.returns j 0 ≡ 0

-- the last Q rounds up to round k + 1, each a round m + 1: module j + 1 was out of the view before it, and its health was 1
pub record GoodRun (s : Setup) (health : ℕ → ℕ) (c : Counters) (k j : ℕ) : Type 0 where
  pub some : 1 ≤ s.q
  pub played : s.q ≤ suc k
  pub away : (m : ℕ) → suc k ≤ m + s.q → m ≤ k → in_view_after s health c m j ≡ false
  pub healthy : (m : ℕ) → suc k ≤ m + s.q → m ≤ k → bit (health (suc m)) j ≡ true

-- of every setup of at most 16 modules, every history from counters on of which none is counted, and every module j + 1
pub record TakenBack : Type 0 where
  -- after Q rounds running with health 1 a module that was out of the view is back
  pub returns : (s : Setup) (health : ℕ → ℕ) (c : Counters) (k j : ℕ) → s.n ≤ 16 → NoneCounted s c → j < s.n
      → GoodRun s health c k j → in_view_after s health c (suc k) j ≡ true
  -- and only then
  pub only_then : (s : Setup) (health : ℕ → ℕ) (c : Counters) (k j : ℕ) → s.n ≤ 16 → NoneCounted s c → j < s.n
      → in_view_after s health c k j ≡ false → in_view_after s health c (suc k) j ≡ true → GoodRun s health c k j
  -- it is back with penalty P and reward 0, or with score 0.0, and return count 0
  pub as-it-returns : (s : Setup) (health : ℕ → ℕ) (c : Counters) (k j : ℕ) → s.n ≤ 16 → j < s.n
      → in_view_after s health c k j ≡ false → in_view_after s health c (suc k) j ≡ true
      → account_at (counters_after s health c (suc k)) j ≡ returned_by s.limits
  -- so by counts it leaves at once where its next round is bad
  pub leaves-at-once : (s : Setup) (p r : ℕ) (health : ℕ → ℕ) (c : Counters) (k j : ℕ) → s.limits ≡ Counts p r → s.n ≤ 16 → j < s.n
      → 1 ≤ get_or s.criticality j 0
      → in_view_after s health c k j ≡ false → in_view_after s health c (suc k) j ≡ true → bit (health (suc (suc k))) j ≡ false
      → in_view_after s health c (suc (suc k)) j ≡ false
  -- with Q = 0 nobody comes back
  pub never : (s : Setup) (health : ℕ → ℕ) (c : Counters) (k m j : ℕ) → s.n ≤ 16 → j < s.n → s.q ≡ 0
      → in_view_after s health c k j ≡ false → k ≤ m → in_view_after s health c m j ≡ false
