use Rattle.std.proofs.Common.{rules, tests, ◌∙◌, get_or}
use Rattle.words.specs.Bits.{bit}
use Rattle.views.proofs.MajorityLaws.{carriers-ones}
use Rattle.views.proofs.adopt.ones.Goals as goal

pub returns : goal.returns
returns c =
    let a = c.args in (
      c.senders.ensures.1 (λ l. bit (get_or a.views.now l 0) a.j) (λ l b h p. search (rules, tests)) ∙ carriers-ones a.n a.views.now a.j,
      c.senders.ensures.0,
    )
