-- The events of a round: losses and lies. (document 01, "What runs", kinds 7 and 8)
use Rattle.std.specs.Prelude.{ℕ, ◌+◌, ◌/◌, ◌%◌, Bool, cond, ◌&&◌, eqb, get_or, replicate}
use Rattle.words.specs.Bits.{bit}
use Rattle.words.specs.Table.{table}
use Rattle.script.specs.Words.{kind_of, sender_in, receivers_in}
use Rattle.script.specs.declared.Events.{Events}

-- every word arrives as it was sent
unfoldable pub none : Events
none = record { fate = replicate 256 0; told = replicate 256 0; views = replicate 256 0 }

-- the event w is about the receiver i + 1 and the sender j + 1 whose entry stands at x = 16 * i + j
unfoldable pub concerns : ℕ → ℕ → Bool
concerns w x = eqb (sender_in w) (x % 16 + 1) && bit (receivers_in w) (x / 16)

-- One more event w, a loss or a lie with its told word t and its told view word v: it replaces an earlier one for the same sender and receiver. The
-- fate is its kind.
unfoldable pub with_event : Events → ℕ → ℕ → ℕ → Events
with_event e w t v = record {
  fate = table (λ x. cond (concerns w x) (kind_of w) (get_or e.fate x 0));
  told = table (λ x. cond (concerns w x) t (get_or e.told x 0));
  views = table (λ x. cond (concerns w x) v (get_or e.views x 0));
}
