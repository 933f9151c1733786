-- The entries below j are read, the others as they were.
use Rattle.std.proofs.Common.{◌≡◌, ◌+◌}
use Rattle.words.specs.Word.{word_at}
use Rattle.words.specs.Array.{replaced}
use Rattle.setup.specs.Setup.{criticality_in}
use Rattle.changes.proofs.lent.load_criticality.Given as goal

abbrev pub invariant-loop-j : goal.invariant-loop-j
invariant-loop-j l =
    l.criticality ≡ replaced l.j (λ k. criticality_in (word_at l.s (l.at + 3 + k))) l.initial.criticality
