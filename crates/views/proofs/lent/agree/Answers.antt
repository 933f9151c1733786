-- The views are read, the view words of the read beside them and aligned, and the views after the step are written.
use Rattle.std.proofs.Common.{arith}
use Rattle.words.proofs.ArrayLaws.{array-none}
use Rattle.views.proofs.ViewWords.{agreed-by}
use Rattle.views.proofs.lent.agree.Goals as goal

pub load_view_words-requires : goal.load_view_words-requires
load_view_words-requires c =
    (c.requires.0, c.requires.1, omega (arith, c.requires.2), array-none _)

pub read_views-requires : goal.read_views-requires
read_views-requires c = (c.requires.0, c.requires.3, array-none _)

pub returns : goal.returns
returns c =
    let a = c.args in
    agreed-by c.align_views.new.views a.out.now a.s.now a.read.now a.n a.at a.split a.controller a.local a.latest a.to c.requires.0
    c.load_view_words.array_long c.load_view_words.ensures c.read_views.ensures c.align_views.ensures c.adopted_at.ensures.0
    c.adopted_at.ensures.1 c.after-adopted.ensures.0 c.after-adopted.ensures.1 c.save_view_words.ensures
