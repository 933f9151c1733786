-- The search through the section.
use Rattle.std.proofs.Common.{rules, tests}
use Rattle.words.specs.Word.{word_at}
use Rattle.image.specs.Scores.{half_test}
use Rattle.image.proofs.SectionLaws.{each-by}
use Rattle.image.proofs.check.check_scores.Goals as goal

pub returns : goal.returns
returns c =
    each-by _ (half_test (word_at c.args.s.now) 6 c.args.n) c.accounts_at-at.ensures (c.each.ensures _ (λ j b l p. search (rules, tests)))
