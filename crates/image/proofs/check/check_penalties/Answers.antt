-- The search through the section.
use Rattle.std.proofs.Common.{rules, tests}
use Rattle.words.specs.Word.{word_at}
use Rattle.image.specs.CounterSection.{counter_test}
use Rattle.image.specs.Counters.{penalties}
use Rattle.image.proofs.SectionLaws.{each-by}
use Rattle.image.proofs.check.check_penalties.Goals as goal

pub returns : goal.returns
returns c =
    each-by _ (counter_test penalties (word_at c.args.s.now) 3 c.args.n) c.accounts_at-at.ensures (c.each.ensures _ (λ j b l p. search (rules, tests)))
