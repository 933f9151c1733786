-- A low half is right; a high half where its score is.
use Rattle.std.proofs.Common.{true, refl}
use Rattle.words.specs.Word.{word_at}
use Rattle.setup.specs.Layout.{front_words}
use Rattle.image.proofs.HalfLaws.{score-by, half_high, half-low}
use Rattle.image.proofs.scores.half_right.Goals as goal

pub returns-then-i-ne0 : goal.returns-then-i-ne0
returns-then-i-ne0 c =
    let a = c.args in
    half-low (word_at a.s.now) (front_words true) a.n a.i c.if-i-ne0.true refl

pub returns : goal.returns
returns c =
    let a = c.args in
    let w = word_at a.s.now in
    half_high w (front_words true) a.n a.i c.if-i-ne0.false
    (score-by w (front_words true) a.n _ c.double_at.ensures c.view_in.ensures c.bit_at-present.ensures c.accounts_at.ensures c.double_at-score.ensures
    c.score_fits.ensures)
