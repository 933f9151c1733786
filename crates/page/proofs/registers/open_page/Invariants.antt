-- After i turns the first i words are written, and the rest is as it was.
use Prim.Native.Nat.{◌-◌, ◌*◌, ◌≤◌}
use mathlib.Core.Path.{◌≡◌}
use mathlib.Core.List.{◌++◌}
use lib.ListN.{length, drop}
use Rattle.words.specs.Word.{bytes_of}
use Rattle.page.specs.Page.{opened_word}
use Rattle.page.proofs.registers.open_page.Given as goal

abbrev pub invariant-loop-i : goal.invariant-loop-i
invariant-loop-i l =
    (l.i ≤ 16) × (length l.page ≡ length l.initial.page) × (l.page ≡ bytes_of l.i (opened_word l.n l.view) ++ drop (l.i * 4) l.initial.page)

abbrev pub decreases-loop-i : goal.decreases-loop-i
decreases-loop-i l = 16 - l.i
