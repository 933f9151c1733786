-- After i turns the first i modules are opened with their own numbers.
use Rattle.std.proofs.Common.{◌≡◌, ◌+◌, replicate}
use Rattle.words.specs.Table.{updated}
use Rattle.presence.specs.Opening.{open_of}
use Rattle.backplane.proofs.play.opened_states.Given as goal

abbrev pub invariant-loop-i : goal.invariant-loop-i
invariant-loop-i l = l.states ≡ updated l.i (λ k. (open_of l.setup (k + 1)).state) (replicate 16 (open_of l.setup 1).state)
