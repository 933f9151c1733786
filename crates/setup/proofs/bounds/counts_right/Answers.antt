-- Each limit's word is read and tested.
use Rattle.std.proofs.Common.{ap, ◌∙◌}
use Rattle.words.specs.Word.{word_at}
use Rattle.setup.specs.Check.{limit_ok}
use Rattle.setup.proofs.BoundLaws.{counts-by}
use Rattle.setup.proofs.bounds.counts_right.Goals as goal

pub returns : goal.returns
returns c =
    counts-by (word_at c.args.s.now) (c.limit_ok.ensures ∙ ap (limit_ok _ _) c.word_at.ensures)
    (c.limit_ok-2.ensures ∙ ap (limit_ok _ _) c.word_at-2.ensures)
