-- Flags are cleared, enable is stored.
use Rattle.page.proofs.PageLaws.{written-flags, written-enable}
use Rattle.page.proofs.registers.write_page.Goals as goal

pub returns-then-offset-eq8 : goal.returns-then-offset-eq8
returns-then-offset-eq8 c =
    written-flags _ _ _ c.word_at.ensures c.cleared-flags.ensures c.put_word.ensures c.if-offset-eq8.true

pub returns-else-offset-eq8 : goal.returns-else-offset-eq8
returns-else-offset-eq8 c = written-enable _ _ _ c.put_word-else-offset-eq8.ensures c.if-offset-eq8.false
