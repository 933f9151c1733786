-- Rule 8 for all modules, by the limits of the setup. (document 01, "One step", rule 8; document 02, E9)
use Rattle.std.specs.Prelude.{ℕ, Bool, true, get_or}
use Rattle.words.specs.Bits.{bit, pack}
use Rattle.words.specs.Array.{array}
use Rattle.doubles.specs.Double.{double}
use Rattle.doubles.specs.Array.{entry, doubles}
use Rattle.setup.specs.declared.Setup.{Setup}
use Rattle.setup.specs.declared.Limits.{Limits}
use Rattle.setup.specs.declared.Limits.TheVariants.{Counts, Fading}
use Rattle.accounts.specs.Account.{uncounted, accounted}
use Rattle.accounts.specs.Fading.{scored, faded}
use Rattle.accounts.specs.declared.Account.{Account}
use Rattle.accounts.specs.declared.Counters.{Counters}

-- one module, by counts or by fading scores
unfoldable pub accounted_by : Limits → ℕ → ℕ → Bool → Account → Account
accounted_by (Counts p r) q criticality healthy a = accounted p r q criticality healthy a
accounted_by (Fading factor limit) q criticality healthy a = faded factor limit q healthy a

-- as a module returns
abbrev pub returned_by : Limits → Account
returned_by (Counts p r) = uncounted true p 0
returned_by (Fading factor limit) = scored true (double 0) 0

-- the account of module j + 1
unfoldable pub account_at : Counters → ℕ → Account
account_at c j = record {
  present = bit c.view j;
  penalty = get_or c.penalty j 0;
  reward = get_or c.reward j 0;
  score = entry c.score j;
  returns = get_or c.returns j 0;
}

-- the account of module j + 1 after a round with this health vector
unfoldable pub accounted_at : Setup → ℕ → Counters → ℕ → Account
accounted_at s health c j = accounted_by s.limits s.q (get_or s.criticality j 0) (bit health j) (account_at c j)

-- all modules: the view and the accounts after a round with this health vector
unfoldable pub counters_of : Setup → ℕ → Counters → Counters
counters_of s health c = record {
  view = pack s.n (λ j. (accounted_at s health c j).present);
  penalty = array s.n (λ j. (accounted_at s health c j).penalty);
  reward = array s.n (λ j. (accounted_at s health c j).reward);
  score = doubles s.n (λ j. (accounted_at s health c j).score);
  returns = array s.n (λ j. (accounted_at s health c j).returns);
}
