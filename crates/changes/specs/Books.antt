-- What rule 8 counts with and what it counts, over a round: a change that is due takes effect, then the round is counted by the limits that hold.
-- (document 02, E10; document 01, "One step", rule 8)
use Rattle.std.specs.Prelude.{ℕ, cond}
use Rattle.accounts.specs.Round.{counters_of}
use Rattle.changes.specs.Pending.{nothing, renewed, due, counted_down}
use Rattle.changes.specs.Adjust.{adjusted_of}
use Rattle.changes.specs.declared.Books.{Books}

-- a change that is due takes the old setup's place, and the accounts are adjusted to it; else there is one round less to go
unfoldable pub turned : Books → Books
turned b =
    cond (due b.pending)
    (record {
      setup = renewed b.setup b.pending;
      counters = adjusted_of b.setup.n b.pending b.counters;
      pending = nothing;
    })
    (record { setup = b.setup; counters = b.counters; pending = counted_down b.pending })

-- rule 8, by the limits that hold
unfoldable pub counted : ℕ → Books → Books
counted health b = record { setup = b.setup; counters = counters_of b.setup health b.counters; pending = b.pending }

-- the books after a round with this health vector
unfoldable pub books_after : Books → ℕ → Books
books_after b health = counted health (turned b)
