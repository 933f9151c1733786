-- The code and the definition make the same tests.
use mathlib.Core.Path.{refl, sym, ◌∙◌}
use Rattle.scanlock.specs.Locks.{admits}
use Rattle.scanlock.proofs.LockEventLaws.{index-is, index-none}
use Rattle.scanlock.proofs.Locks.index_for.Goals as goal

pub returns-in_err-i-clause-is : goal.returns-in_err-i-clause-is
unfolding admits
returns-in_err-i-clause-is c =
    let f = index-none _ _ (sym c.in_err-i.was ∙ c.index.ensures.is) in
    c.from_residual.ensures ∙ rw f refl

pub returns-then-by-self-clause-is : goal.returns-then-by-self-clause-is
unfolding admits
returns-then-by-self-clause-is c =
    let (t, k) = index-is _ _ _ (sym c.in_ok-i.was ∙ c.index.ensures.is) in
    rw (t, k, rw c.is_present.ensures at c.if-by-self.true) refl

pub returns-clause-is : goal.returns-clause-is
unfolding admits
returns-clause-is c =
    let (t, k) = index-is _ _ _ (sym c.in_ok-i.was ∙ c.index.ensures.is) in
    rw (t, rw c.is_present.ensures at c.if-by-self.false) refl
