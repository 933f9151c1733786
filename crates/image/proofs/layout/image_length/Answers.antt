-- The words before the views, and those of the views.
use Rattle.std.proofs.Common.{arith}
use Rattle.changes.proofs.SectionTests.{new-most}
use Rattle.views.proofs.ViewWords.{views-most}
use Rattle.image.proofs.layout.image_length.Goals as goal

pub overflow_add-result : goal.overflow_add-result
overflow_add-result c =
    let e = c.views_at.ensures in
    let f = c.views_count.ensures in
    let a = c.args in
    omega (arith, e, f, new-most a.n a.left, views-most a.partitionable a.n)

pub overflow_mul-result : goal.overflow_mul-result
overflow_mul-result c =
    let e = c.views_at.ensures in
    let f = c.views_count.ensures in
    let a = c.args in
    omega (arith, e, f, new-most a.n a.left, views-most a.partitionable a.n)
