-- The search through the section.
use Rattle.std.proofs.Common.{rules, tests}
use Rattle.words.specs.Word.{word_at}
use Rattle.image.specs.CounterSection.{counter_test}
use Rattle.image.specs.Returns.{return_counts}
use Rattle.image.proofs.SectionLaws.{each-by}
use Rattle.image.proofs.check.check_returns.Goals as goal

pub returns : goal.returns
returns c =
    each-by _ (counter_test return_counts (word_at c.args.s.now) c.args.front c.args.n) c.returns_at-at.ensures (c.each.ensures _ (λ j b l p. search (rules, tests)))
