-- Too short to hold the rounds left, or by them.
use Rattle.std.proofs.Common.{◌≡◌, ℕ, ◌+◌, ◌*◌, ◌<◌, false, eqb, List, length, sym, ap, ◌∙◌, ap₂, arith, ne_eqb}
use Rattle.words.specs.Word.{word_at}
use Rattle.setup.specs.Setup.{partitionable_in}
use Rattle.image.specs.Layout.{left_at, image_length}
use Rattle.image.proofs.check.length_right.Goals as goal

too_short : {at k : ℕ} (front n : ℕ) (s : List ℕ) → at ≡ left_at front n → k < (at + 1) * 4
    → false ≡ eqb k (image_length front n (word_at s (left_at front n)) (partitionable_in (word_at s 0)))
too_short {at} {k} front n s e h = sym (ne_eqb k (image_length front n (word_at s (left_at front n)) (partitionable_in (word_at s 0))) (λ l. omega (arith, e)))

pub returns-then-s-at : goal.returns-then-s-at
returns-then-s-at c =
    let e = c.left_at-at.ensures in
    let a = c.args in
    too_short a.front a.n a.s.now e c.if-s-at.true

pub returns : goal.returns
returns c =
    let a = c.args in
    let w = c.word_at-left.ensures ∙ ap (word_at a.s.now) c.left_at-at.ensures in
    let b = c.bit_at.ensures ∙ ap partitionable_in c.word_at.ensures in
    ap (eqb (length a.s.now)) (c.image_length.ensures ∙ ap₂ (image_length a.front a.n) w b)
