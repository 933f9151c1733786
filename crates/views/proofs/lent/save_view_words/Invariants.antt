-- The first j view words are written, and the rest is as it was; then the others, one by one.
use Rattle.std.proofs.Common.{◌≡◌, get_or}
use Rattle.words.specs.Runs.{put_run}
use Rattle.views.proofs.lent.save_view_words.Given as goal

abbrev pub invariant-loop-j : goal.invariant-loop-j
invariant-loop-j l = l.out ≡ put_run l.initial.out l.at l.j (λ k. get_or l.words k 0)
