-- A told word is not refused; else a play or an event answers.
use Rattle.std.proofs.Common.{sym, ◌∙◌, eq-eqb, ne_eqb}
use Rattle.script.proofs.AheadLaws.{refusal-told, refusal-play, refusal-event}
use Rattle.script.proofs.Scan.word_refusal.Goals as goal

pub returns-then-self-ne0 : goal.returns-then-self-ne0
returns-then-self-ne0 c = sym (refusal-told _ _ _ _ (ne_eqb _ 0 c.if-self-ne0.true))

pub returns-then-is : goal.returns-then-is
returns-then-is c =
    c.play_refusal.ensures ∙ sym (refusal-play _ _ _ _ (eq-eqb _ 0 c.if-self-ne0.false) (sym c.is.ensures ∙ c.if-is.true))

pub returns : goal.returns
returns c =
    c.event_refusal.ensures ∙ sym (refusal-event _ _ _ _ (eq-eqb _ 0 c.if-self-ne0.false) (sym c.is.ensures ∙ c.if-is.false))
