-- A helper of the contract of `turned_view` (src/with_page.rt), an inner function: no public contract rests on it.
-- Who is in the view after a change that is due, by the words w of an image of n modules that counts.
use Rattle.std.specs.Prelude.{ℕ, ◌+◌, Bool, ◌&&◌, ◌||◌, leb}
use Rattle.words.specs.Bits.{bit}
use Rattle.setup.specs.Setup.{limit_in}
use Rattle.image.specs.Layout.{own_at, accounts_at, rewards_at, left_at}
use Rattle.image.specs.Words.{view_in}
use Rattle.image.specs.CounterSection.{counter_in}

-- module j + 1 is in the view, and its reward is at or above the new R or its penalty not over the new P
unfoldable pub turned_in : (ℕ → ℕ) → ℕ → ℕ → Bool
turned_in w n j =
    bit (view_in (w (own_at 3 n))) j
    && (leb (limit_in (w (left_at 3 n + 2))) (counter_in (w (rewards_at 3 n + j))) || leb (counter_in (w (accounts_at 3 n + j))) (limit_in (w (left_at 3 n + 1))))
