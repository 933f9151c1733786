-- A told word tells nothing by itself; a loss stands by itself, a lie with the words that follow it; any other word tells nothing.
use Rattle.std.proofs.Common.{sym, ◌∙◌, eq-eqb, ne_eqb}
use Rattle.script.proofs.GatherLaws.{events-told, events-loss, events-lie, events-other}
use Rattle.script.proofs.play.events_after.Goals as goal

pub returns-then-due-ne0 : goal.returns-then-due-ne0
returns-then-due-ne0 c = events-told _ _ _ _ c.word_at-w.ensures (ne_eqb _ 0 c.if-due-ne0.true)

pub returns-then-is : goal.returns-then-is
returns-then-is c =
    events-loss _ _ _ _ c.word_at-w.ensures (eq-eqb _ 0 c.if-due-ne0.false) (sym c.is.ensures ∙ c.if-is.true) c.with.ensures

pub returns-then-is-2 : goal.returns-then-is-2
returns-then-is-2 c =
    events-lie _ _ _ _ c.word_at-w.ensures (eq-eqb _ 0 c.if-due-ne0.false) (sym c.is-2.ensures ∙ c.if-is-2.true) c.word_within.ensures
    c.told_view_of.ensures c.with-then-is-2.ensures

pub returns : goal.returns
returns c =
    events-other _ _ _ _ c.word_at-w.ensures (eq-eqb _ 0 c.if-due-ne0.false) (sym c.is.ensures ∙ c.if-is.false) (sym c.is-2.ensures ∙ c.if-is-2.false)
