-- Those of the senders below l that pass were counted.
use Rattle.std.proofs.Common.{◌≡◌, ℕ, Bool, ◌<◌, ◌≤◌, get_or}
use Rattle.words.specs.Count.{count}
use Rattle.views.proofs.adopt.senders.Given as goal

abbrev pub invariant-loop-l : goal.invariant-loop-l
invariant-loop-l g l =
    (l.many ≤ l.l) × ((p : ℕ → Bool) → ((k : ℕ) (b : Bool) → k < l.n → goal.F-post g l.passes (get_or l.views k 0) b → b ≡ p k) → l.many ≡ count l.l p)
