-- Full views, and an array of the full view word.
use Rattle.views.proofs.ViewsLaws.{full_by}
use Rattle.views.proofs.after.full_views.Goals as goal

pub returns : goal.returns
returns c = full_by _ c.full_of-full.ensures c.view_word.ensures c.filled.ensures
