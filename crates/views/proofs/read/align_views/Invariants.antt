-- The first j view words are aligned, and the others are as they were.
use Rattle.std.proofs.Common.{◌≡◌, cond, get_or, ltb}
use Rattle.words.specs.Array.{replaced}
use Rattle.views.proofs.read.align_views.Given as goal

abbrev pub invariant-loop-j : goal.invariant-loop-j
invariant-loop-j l =
    l.views ≡ replaced l.j (λ k. cond (ltb k l.split) (get_or l.initial.views k 0) (get_or l.this k 0)) l.initial.views
