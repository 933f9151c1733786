-- Opening a module from a setup and its own number. (document 01, "One step", last paragraph; number 7; document 02, E11: the views)
use Rattle.std.specs.Prelude.{ℕ, Result, Ok, Err, cond, List, replicate}
use Rattle.words.specs.Bits.{full}
use Rattle.words.specs.Array.{array}
use Rattle.words.specs.Verdict.{Verdict, is_accepted, between, single, and_then, outcome}
use Rattle.words.specs.Refusal.{code}
use Rattle.words.specs.declared.Refusal.{Refusal}
use Rattle.setup.specs.Setup.{blank_setup}
use Rattle.setup.specs.Check.{setup_verdict}
use Rattle.setup.specs.declared.Setup.{Setup}
use Rattle.changes.specs.Pending.{nothing}
use Rattle.views.specs.Views.{no_views, fresh_views}
use Rattle.image.specs.Counters.{zero_counters}
use Rattle.presence.specs.declared.State.{State}

-- a fresh module: all-ones syndromes and rows, all heard, zero counters, full view, no pending change; where the setup is partitionable, full views
unfoldable pub fresh : Setup → ℕ → State
fresh s own = record {
  setup = s;
  own = own;
  counters = zero_counters (full s.n);
  previous = record { heard = full s.n; rows = array s.n (λ j. full s.n) };
  latest = full s.n;
  earlier = full s.n;
  pending = nothing;
  views = fresh_views s.partitionable s.n;
}

-- What a refused opening or reading holds, which document 01 leaves free: all zeros. A step of it is refused by 2 at 0, since no setup has N = 0.
unfoldable pub blank : State
blank =
    let zeros : List ℕ = replicate 16 0 in
    record {
      setup = blank_setup;
      own = 0;
      counters = zero_counters 0;
      previous = record { heard = 0; rows = zeros };
      latest = 0;
      earlier = 0;
      pending = nothing;
      views = no_views;
    }

-- numbers 2, 4 to 6 and 22 of the setup, then 7 with index 0
unfoldable pub check_opening : Setup → ℕ → Verdict
check_opening s own = and_then (setup_verdict s) (outcome (single (between 1 s.n own) 7 0))

-- what an opening and a reading answer: the number and the index, 0 and 0 where nothing is refused, and the state
pub record Opened : Type 0 where
  pub number : ℕ
  pub index : ℕ
  pub state : State

-- what an opening answers: the fresh module, or blank where it is refused
unfoldable pub open_of : Setup → ℕ → Opened
open_of s own =
    let v = check_opening s own in
    record { number = v.number; index = v.index; state = cond (is_accepted v) (fresh s own) blank }

-- what an opening and a reading answer as code has it; with a refusal it gives no state
abbrev pub opened_told : Result State Refusal → Opened
opened_told (Ok state) = record { number = 0; index = 0; state = state }
opened_told (Err e) = record { number = code e.number; index = e.index; state = blank }
