-- The fields of the definition.
use Rattle.std.proofs.Common.{arith}
use Rattle.words.proofs.ArrayLaws.{array-none}
use Rattle.views.proofs.ViewsLaws.{read_by}
use Rattle.views.proofs.section.load_views.Goals as goal

pub load_view_words-requires : goal.load_view_words-requires
load_view_words-requires c =
    (c.requires.0, c.requires.1, omega (arith, c.requires.2), array-none _)

pub returns : goal.returns
returns c =
    read_by _ _ _ c.load_view_words.ensures c.word_at.ensures c.adopted_at-adopted.ensures.0 c.adopted_at-adopted.ensures.1
