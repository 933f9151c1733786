-- After x turns the first x entries of the three arrays are those after the event.
use Prim.Native.Nat.{◌-◌, ◌≤◌}
use mathlib.Core.Path.{◌≡◌}
use mathlib.Core.Bool.{cond}
use lib.ListN.{get_or, replicate}
use Rattle.words.specs.Table.{updated}
use Rattle.script.specs.Words.{kind_of}
use Rattle.script.specs.Events.{concerns}
use Rattle.script.proofs.Events.with.Given as goal

abbrev pub invariant-loop-x : goal.invariant-loop-x
invariant-loop-x l =
    (l.x ≤ 256)
    × (l.fate ≡ updated l.x (λ y. cond (concerns l.w y) (kind_of l.w) (get_or l.self.fate y 0)) (replicate 256 0))
    × (l.told ≡ updated l.x (λ y. cond (concerns l.w y) l.told_word (get_or l.self.told y 0)) (replicate 256 0))
    × (l.views ≡ updated l.x (λ y. cond (concerns l.w y) l.told_view (get_or l.self.views y 0)) (replicate 256 0))

abbrev pub decreases-loop-x : goal.decreases-loop-x
decreases-loop-x l = 256 - l.x
