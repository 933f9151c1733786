-- The tests of the code are those of the definition, in their order.
use mathlib.Core.Path.{refl, sym, ◌∙◌}
use borrow.Author.Tests.{le-leb, lt-leb}
use Rattle.scanlock.specs.Axis.{begun_of, deeper}
use Rattle.scanlock.proofs.LockEventLaws.{yes, no}
use Rattle.scanlock.proofs.Axis.begun.Goals as goal

pub returns-then-barred : goal.returns-then-barred
unfolding begun_of
returns-then-barred c = yes _ (sym c.barred.ensures ∙ c.if-barred.true) refl

pub returns-then-self-ge8 : goal.returns-then-self-ge8
unfolding begun_of
returns-then-self-ge8 c =
    no _ (sym c.barred.ensures ∙ c.if-barred.false)
    (yes _ (le-leb _ _ c.if-self-ge8.true) refl)

pub returns : goal.returns
unfolding begun_of deeper
returns c =
    no _ (sym c.barred.ensures ∙ c.if-barred.false)
    (no _ (lt-leb _ _ c.if-self-ge8.false) refl)
