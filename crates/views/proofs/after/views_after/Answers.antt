-- The fields of the definition.
use Rattle.std.proofs.Common.{arith}
use Rattle.views.proofs.ViewWordLaws.{replaced-same}
use Rattle.views.proofs.ViewsLaws.{after-by}
use Rattle.views.proofs.after.views_after.Goals as goal

pub returns : goal.returns
returns c =
    let a = c.args in
    after-by a.n a.views _ _ a.this a.local (replaced-same a.n _ a.views.words c.requires (omega arith) c.align_views.ensures)
    c.after-next.ensures.0 c.after-next.ensures.1
