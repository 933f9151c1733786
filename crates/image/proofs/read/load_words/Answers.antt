-- Each word at its place, its tests and its fields.
use Rattle.std.proofs.Common.{ℕ, ◌&&◌, ap, ◌∙◌, ap₂}
use Rattle.words.specs.Word.{word_at}
use Rattle.image.specs.Words.{own_in, view_in, syndrome_in, own_number_ok, own_ok, syndrome_ok}
use Rattle.image.proofs.read.load_words.Goals as goal

pub returns : goal.returns
returns c =
    let n = c.args.n in
    let own = c.word_at-own.ensures ∙ ap (word_at _) c.own_at.ensures in
    let latest = c.word_at-latest.ensures ∙ ap (word_at _) c.latest_at.ensures in
    let earlier = c.word_at-earlier.ensures ∙ ap (word_at _) c.earlier_at.ensures in (
      ap₂ ◌&&◌ (c.own_right.ensures ∙ ap (λ (w : ℕ). own_number_ok n w && own_ok n w) own)
          (ap₂ ◌&&◌ (c.syndrome_ok.ensures ∙ ap (syndrome_ok _) latest) (c.syndrome_ok-2.ensures ∙ ap (syndrome_ok _) earlier)),
      c.field.ensures ∙ ap own_in own,
      ap view_in own,
      ap syndrome_in latest,
      ap syndrome_in earlier,
    )
