-- Health and view are written, the flags are raised, and the causes are written.
use Rattle.page.proofs.PageLaws.{stepped-made}
use borrow.Author.Rules.{rules}
use Rattle.page.proofs.registers.step_page.Goals as goal

pub put_causes-requires : goal.put_causes-requires
put_causes-requires c = (search rules, c.requires.3)

pub returns : goal.returns
returns c =
    stepped-made _ _ _ _ _ _ c.word_at.ensures c.word_at-2.ensures c.somebody_charged-charged.ensures
    c.raise-flags.ensures c.put_word.ensures c.put_word-2.ensures c.put_word-3.ensures c.put_causes.ensures
