-- Each from its word.
use Rattle.std.proofs.Common.{ℕ, ap, ◌∙◌}
use Rattle.words.specs.Word.{word_at}
use Rattle.words.specs.Bits.{bit}
use Rattle.setup.specs.Setup.{return_limit_in}
use Rattle.image.specs.CounterSection.{counter_in}
use Rattle.image.proofs.ReadLaws.{word-by, basis-by}
use Rattle.image.proofs.counters.basis_in.Goals as goal

pub returns : goal.returns
returns c =
    let t = c.args in
    basis-by (word_at t.s.now) t.front t.n t.j c.limit_in.ensures c.limit_in-2.ensures
    (c.field.ensures ∙ ap return_limit_in c.word_at.ensures) c.criticality_in.ensures
    (c.bit_at.ensures ∙ ap (λ (x : ℕ). bit x t.j) c.view_in.ensures)
    (ap counter_in (word-by _ _ c.accounts_at.ensures c.word_at-2.ensures))
