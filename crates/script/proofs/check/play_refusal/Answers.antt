-- 12 where the play is wrong, else 15 or nothing by the sum, which fits a word.
use Rattle.std.proofs.Common.{sym, ◌∙◌, le-leb}
use Rattle.std.proofs.lemmas.Bool.{lt-leb}
use Rattle.words.proofs.Truth.{cond-true, cond-false}
use Rattle.script.specs.Check.{play_refusal}
use Rattle.script.proofs.check.play_refusal.Goals as goal

pub returns-then-not-play_ok : goal.returns-then-not-play_ok
unfolding play_refusal
returns-then-not-play_ok c = sym (cond-false _ _ (sym c.play_ok.ensures ∙ c.if-not-play_ok.true))

pub returns-then-rounds-w-gt-MOST_ROUNDS : goal.returns-then-rounds-w-gt-MOST_ROUNDS
unfolding play_refusal
returns-then-rounds-w-gt-MOST_ROUNDS c =
    sym (cond-true _ _ (sym c.play_ok.ensures ∙ c.if-not-play_ok.false) ∙ cond-false _ _ (lt-leb _ _ c.if-rounds-w-gt-MOST_ROUNDS.true))

pub returns : goal.returns
unfolding play_refusal
returns c = sym (cond-true _ _ (sym c.play_ok.ensures ∙ c.if-not-play_ok.false) ∙ cond-true _ _ (le-leb _ _ c.if-rounds-w-gt-MOST_ROUNDS.false))
