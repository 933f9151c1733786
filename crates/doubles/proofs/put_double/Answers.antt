-- Two words, one after the other.
use mathlib.Core.Path.{ap, ap₂, ◌∙◌}
use mathlib.Core.List.{List}
use Prim.Native.Nat.{ℕ, ◌+◌}
use Rattle.words.specs.Word.{put_word}
use Rattle.doubles.proofs.put_double.Goals as goal

pub returns : goal.returns
returns c =
    c.put_word-2.ensures ∙ ap₂ (λ (s : List ℕ) (w : ℕ). put_word s (c.args.i + 1) w) (c.put_word.ensures ∙ ap (put_word _ _) c.high_word.ensures) c.low_word.ensures
