-- By whether the axis is held.
use mathlib.Core.Path.{refl}
use borrow.Author.Tests.{eq-eqb, ne_eqb}
use Rattle.scanlock.specs.SoundLocks.{held_well}
use Rattle.scanlock.proofs.LockEventLaws.{yes, no}
use Rattle.scanlock.proofs.fits.held_well.Goals as goal

pub returns-then-x-eq0 : goal.returns-then-x-eq0
unfolding held_well
returns-then-x-eq0 c = yes _ (eq-eqb _ 0 c.if-x-eq0.true) refl

pub returns : goal.returns
unfolding held_well
returns c = no _ (ne_eqb _ 0 c.if-x-eq0.false) c.is_present.ensures
