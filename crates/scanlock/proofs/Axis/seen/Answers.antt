-- By whether the holder is in the view.
use mathlib.Core.Path.{refl, sym, ◌∙◌}
use Rattle.scanlock.specs.Axis.{lost_of}
use Rattle.scanlock.proofs.LockEventLaws.{yes, no}
use Rattle.scanlock.proofs.Axis.seen.Goals as goal

pub returns-then-is_present : goal.returns-then-is_present
unfolding lost_of
returns-then-is_present c = yes _ (sym c.is_present.ensures ∙ c.if-is_present.true) refl

pub returns : goal.returns
unfolding lost_of
returns c = no _ (sym c.is_present.ensures ∙ c.if-is_present.false) refl
