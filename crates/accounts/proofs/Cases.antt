-- What rule 8 gives is what document 02 says: computed.
use mathlib.Core.Path.{refl}
use lib.Ieee.{of_int, of_bits, to_bits, add, mul, lt}
use Rattle.doubles.specs.Double.{double}
use Rattle.accounts.specs.Account.{awaited}
use Rattle.accounts.specs.Fading.{next_score, faded}
use Rattle.accounts.specs.Round.{accounted_by}
use Rattle.accounts.specs.Cases.{CasesRight}

pub cases-right : CasesRight
unfolding of_int of_bits to_bits add mul lt double awaited next_score faded accounted_by
cases-right = refl
