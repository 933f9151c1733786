-- The tests of the code are those of the definition, in their order.
use mathlib.Core.Path.{refl, sym, ◌∙◌}
use borrow.Author.Tests.{eq-eqb, ne_eqb}
use Rattle.scanlock.specs.Axis.{ended_of}
use Rattle.scanlock.proofs.LockEventLaws.{yes, no, end-made}
use Rattle.scanlock.proofs.Axis.ended.Goals as goal

pub returns-then-barred : goal.returns-then-barred
unfolding ended_of
returns-then-barred c = yes _ (sym c.barred.ensures ∙ c.if-barred.true) refl

pub returns-then-self-eq0 : goal.returns-then-self-eq0
unfolding ended_of
returns-then-self-eq0 c =
    no _ (sym c.barred.ensures ∙ c.if-barred.false)
    (yes _ (eq-eqb _ 0 c.if-self-eq0.true) refl)

pub returns : goal.returns
unfolding ended_of
returns c =
    no _ (sym c.barred.ensures ∙ c.if-barred.false)
    (no _ (ne_eqb _ 0 c.if-self-eq0.false) (end-made _ c.pick.ensures))
