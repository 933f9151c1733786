-- Each bit of the vector is what the closure says of the module's penalty and reward.
use Rattle.std.proofs.Common.{ℕ, ◌+◌, ◌-◌, ◌*◌, ◌%◌, Bool, ◌&&◌, ◌||◌, leb, refl, ◌∙◌, rules, tests}
use Rattle.words.specs.Word.{word_at, kind_unit, number_unit}
use Rattle.words.specs.Bits.{bit}
use Rattle.words.proofs.BitLaws.{pack-ext}
use Rattle.page.specs.Turned.{turned_in}
use Rattle.page.proofs.FoundLaws.{turned_bit, limit-by}
use Rattle.page.proofs.with_page.turned_view.Goals as goal

pub returns : goal.returns
returns c =
    let a = c.args in
    let w = word_at a.image.now in
    let at = c.left_at-at.result in
    let e = c.left_at-at.ensures in
    let p = c.word_at.result % kind_unit in
    let r = c.word_at-2.result % kind_unit in
    let stays : ℕ → Bool =
    λ j. bit c.view_in-view.result j && (leb r (w (at - 2 * a.n + j) % number_unit) || leb (w (at - 3 * a.n + j) % number_unit) p)
    in
    c.from_fn.ensures stays (λ j b l q. search (rules, tests))
    ∙ pack-ext a.n stays (turned_in w a.n)
    (λ j l. turned_bit w a.n j e c.view_in-view.ensures (limit-by w a.n 1 e c.word_at.ensures refl) (limit-by w a.n 2 e c.word_at-2.ensures refl) refl refl refl)
