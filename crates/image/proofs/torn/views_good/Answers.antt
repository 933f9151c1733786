-- True where there are no views, else all their tests.
use Rattle.std.proofs.Common.{refl}
use Rattle.words.specs.Word.{word_at}
use Rattle.image.specs.Layout.{views_at}
use Rattle.image.proofs.TornLaws.{views-small, views-room, none-wrong, some_right}
use Rattle.image.proofs.torn.views_good.Goals as goal

pub returns-then-not-partitionable : goal.returns-then-not-partitionable
returns-then-not-partitionable c =
    let a = c.args in
    none-wrong (word_at a.s.now) a.n a.view (views_at a.front a.n a.left) c.if-not-partitionable.true

pub views_right-requires : goal.views_right-requires
views_right-requires c =
    let a = c.args in
    let e = c.views_at.ensures in
    (c.requires.1, views-small a.front a.n a.left c.requires.0 c.requires.1 e, views-room a.front a.n a.left c.if-not-partitionable.false e c.requires.2)

pub returns : goal.returns
returns c =
    let a = c.args in
    some_right (word_at a.s.now) a.n a.view (views_at a.front a.n a.left) c.if-not-partitionable.false refl c.views_at.ensures c.views_right.ensures
