-- After the rounds left and the new words.
use Rattle.std.proofs.Common.{arith}
use Rattle.changes.proofs.SectionTests.{new-most}
use Rattle.image.proofs.layout.views_at.Goals as goal

pub overflow_add-result-2 : goal.overflow_add-result-2
overflow_add-result-2 c =
    let e = c.new_count.ensures in
    let a = c.args in
    omega (arith, e, new-most a.n a.left)
