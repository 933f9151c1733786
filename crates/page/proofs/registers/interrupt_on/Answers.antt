-- Flags and enable, compared.
use Rattle.page.proofs.PageLaws.{interrupt-made}
use Rattle.page.proofs.registers.interrupt_on.Goals as goal

pub returns : goal.returns
returns c = interrupt-made _ c.word_at.ensures c.word_at-2.ensures c.shared.ensures
