-- None where there are no views, else their tests.
use Rattle.std.proofs.Common.{sym, ap, ◌∙◌}
use Rattle.words.specs.Word.{word_at}
use Rattle.setup.specs.Setup.{partitionable_in}
use Rattle.image.specs.Layout.{own_at, left_at, views_at}
use Rattle.image.specs.Words.{view_in}
use Rattle.image.proofs.TornLaws.{views-none}
use Rattle.image.proofs.torn.check_any_views.Goals as goal

pub returns-then-not-bit_at : goal.returns-then-not-bit_at
returns-then-not-bit_at c =
    let a = c.args in
    let w = word_at a.s.now in
    let f = ap partitionable_in (sym c.word_at.ensures) ∙ sym c.bit_at.ensures ∙ c.if-not-bit_at.true in
    views-none w a.n (view_in (w (own_at a.front a.n))) (views_at a.front a.n (w (left_at a.front a.n))) f
