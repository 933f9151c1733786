-- `decided` and the view are those of the modules before this turn's.
use Rattle.std.proofs.Common.{◌≡◌, true, false, ◌||◌}
use Rattle.words.specs.Bits.{pack}
use Rattle.words.specs.Count.{all as all_of}
use Rattle.views.specs.Adoption.{carriers, most_of}
use Rattle.views.proofs.adopt.counted.Given as goal

abbrev pub invariant-loop-j : goal.invariant-loop-j
invariant-loop-j l =
    (l.decided ≡ all_of l.j (λ k. most_of l.n (carriers l.n l.views k true) || most_of l.n (carriers l.n l.views k false)))
    × (l.view ≡ pack l.j (λ k. most_of l.n (carriers l.n l.views k true)))
