-- One less where told words were due, else those of a lie.
use Rattle.std.proofs.Common.{cond, Bool, ℕ, ap₂, sym, ◌∙◌, eq-eqb, ne_eqb}
use Rattle.words.proofs.Truth.{cond-true, cond-false}
use Rattle.script.specs.Words.{due_after}
use Rattle.script.proofs.told.due_after.Goals as goal

pub returns-then-due-ne0 : goal.returns-then-due-ne0
unfolding due_after
returns-then-due-ne0 c = sym (cond-false _ _ (ne_eqb _ 0 c.if-due-ne0.true))

pub returns : goal.returns
unfolding due_after
returns c =
    c.pick-2.ensures ∙ ap₂ (λ (b : Bool) (x : ℕ). cond b x 0) c.is.ensures c.pick.ensures
    ∙ sym (cond-true _ _ (eq-eqb _ 0 c.if-due-ne0.false))
