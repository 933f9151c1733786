-- After i turns the first i words are written, and the rest is as it was.
use Prim.Native.Nat.{◌-◌, ◌*◌, ◌≤◌}
use mathlib.Core.Path.{◌≡◌}
use mathlib.Core.List.{◌++◌}
use lib.ListN.{length, drop}
use Rattle.words.specs.Word.{bytes_of}
use Rattle.lockcalls.specs.LockImage.{lock_word}
use Rattle.lockcalls.proofs.save.save_words.Given as goal

abbrev pub invariant-loop-i : goal.invariant-loop-i
invariant-loop-i l = (l.i ≤ 9) × (length l.out ≡ 36) × (length l.initial.out ≡ 36) × (l.out ≡ bytes_of l.i (lock_word l.locks) ++ drop (l.i * 4) l.initial.out)

abbrev pub decreases-loop-i : goal.decreases-loop-i
decreases-loop-i l = 9 - l.i
