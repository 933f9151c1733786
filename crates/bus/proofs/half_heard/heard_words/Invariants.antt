-- After x turns the first x entries are the heard words.
use Prim.Native.Nat.{◌-◌, ◌/◌, ◌%◌, ◌≤◌}
use mathlib.Core.Path.{◌≡◌}
use lib.ListN.{get_or, replicate}
use Rattle.words.specs.Bits.{bit}
use Rattle.words.specs.Table.{updated}
use Rattle.bus.specs.Heard.{heard_word}
use Rattle.bus.proofs.half_heard.heard_words.Given as goal

abbrev pub invariant-loop-x : goal.invariant-loop-x
invariant-loop-x l = (l.x ≤ 256) × (l.heard ≡ updated l.x (λ k. heard_word l.n (bit (get_or l.bits (k / 16) 0) (k % 16)) (get_or l.words k 0)) (replicate 256 0))

abbrev pub decreases-loop-x : goal.decreases-loop-x
decreases-loop-x l = 256 - l.x
