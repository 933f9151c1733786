-- The words before j are right.
use Rattle.std.proofs.Common.{ℕ, ◌<◌, true}
use Rattle.words.proofs.check.each.Given as goal

abbrev pub invariant-loop-j : goal.invariant-loop-j
invariant-loop-j g l = (k : ℕ) → k < l.j → goal.F-post g l.right k true
