-- What a change gives is what document 02 says: computed.
use mathlib.Core.Path.{refl}
use Rattle.words.specs.Bits.{bit, pack}
use Rattle.words.specs.Array.{array}
use Rattle.words.specs.Count.{lowest, all}
use Rattle.words.specs.Verdict.{and_then, outcome, then_tests}
use Rattle.accounts.specs.Account.{charged, rewarded, awaited, accounted}
use Rattle.accounts.specs.Round.{accounted_by, account_at, accounted_at, counters_of}
use Rattle.changes.specs.Pending.{nothing, counted_down}
use Rattle.changes.specs.Adjust.{forgiven, fitted, settled, adjusted, adjusted_at, adjusted_of}
use Rattle.changes.specs.Books.{turned, counted, books_after}
use Rattle.changes.specs.Frame.{same_frame, may_follow, frame_verdict}
use Rattle.changes.specs.Cases.{CasesRight, NumbersRight}

pub cases-right : CasesRight
unfolding bit pack array charged rewarded awaited accounted accounted_by account_at accounted_at counters_of nothing counted_down forgiven fitted settled adjusted adjusted_at adjusted_of turned counted books_after
cases-right = refl

pub numbers-right : NumbersRight
unfolding array lowest all and_then outcome then_tests nothing same_frame may_follow frame_verdict
numbers-right = refl
