-- The word at its place.
use Rattle.std.proofs.Common.{ap, ◌∙◌}
use Rattle.image.specs.Rows.{row_ok}
use Rattle.image.proofs.ReadLaws.{word-by}
use Rattle.image.proofs.rows.row_right.Goals as goal

pub returns : goal.returns
returns c =
    c.row_ok.ensures ∙ ap (row_ok _ _) (word-by _ _ c.rows_at.ensures c.word_at.ensures)
