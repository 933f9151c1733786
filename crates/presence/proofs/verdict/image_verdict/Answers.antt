-- The image is written, and checked.
use mathlib.Core.Path.{ap, ap₂, ◌∙◌}
use mathlib.Core.Bool.{Bool}
use mathlib.Core.List.{List}
use Prim.Native.Nat.{ℕ}
use Rattle.words.specs.Word.{word_at}
use Rattle.setup.specs.Limits.{fades}
use Rattle.setup.proofs.SetupLaws.{verdict-fits}
use Rattle.image.specs.Check.{check_tail}
use Rattle.presence.proofs.StateWords.{length-left, image-words}
use Rattle.presence.proofs.verdict.image_verdict.Goals as goal

pub check_tail-requires : goal.check_tail-requires
check_tail-requires c =
    let f = c.fades.ensures in
    let s = verdict-fits _ c.requires.0 in
    (s.most, length-left c.args.state s f c.save_words.ensures)

pub returns : goal.returns
returns c =
    let st = c.args.state in
    let form = fades st.setup.limits in
    c.check_tail.ensures ∙ ap₂ (λ (b : Bool) (x : List ℕ). check_tail b (word_at x) st.setup.n) c.fades.ensures c.save_words.ensures
    ∙ ap (λ (w : ℕ → ℕ). check_tail form w st.setup.n) (image-words st)
