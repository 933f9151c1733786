-- The words of the image up to the rounds left, the lead, the new words, and the views.
use mathlib.Core.Path.{◌≡◌, ap, sym, ◌∙◌}
use Prim.Native.Nat.{ℕ, ◌+◌, ◌<◌}
use native.Mathlib.Omega.{arith}
use borrow.Author.Tests.{ne_eqb}
use Rattle.words.proofs.Truth.{cond-false}
use Rattle.changes.specs.Words.{new_count}
use Rattle.image.specs.Layout.{image_length}
use Rattle.calls.proofs.ModuleCallLaws.{from_first, parted-by}
use Rattle.calls.proofs.ChangedImageLaws.{changed-room, kept-room, changed-image, changed-viewless}
use Rattle.calls.proofs.change.save_changed.Goals as goal

many-new : (n lead : ℕ) → 0 < lead → new_count n lead ≡ n + 2
many-new n lead h = cond-false _ _ (ne_eqb lead 0 (λ z. omega arith))

pub left_at-at-requires : goal.left_at-at-requires
left_at-at-requires c =
    let a = c.requires in
    (omega arith, (changed-room _ _ a.image_value.0 a.image_value.1 a.image_value.3 a.by_index.0 a.by_index.1 _ a.image_value.4 a.image_value.2).0)

pub copy_run-requires : goal.copy_run-requires
copy_run-requires c =
    let a = c.requires in
    let r = changed-room _ _ a.image_value.0 a.image_value.1 a.image_value.3 a.by_index.0 a.by_index.1 _ a.image_value.4 a.image_value.2 in
    let e = c.left_at-at.ensures in
    (omega (arith, r.1, e), omega (arith, a.image_value.6, e))

pub copy_run-requires-2 : goal.copy_run-requires-2
copy_run-requires-2 c =
    let a = c.requires in
    let r = changed-room _ _ a.image_value.0 a.image_value.1 a.image_value.3 a.by_index.0 a.by_index.1 _ a.image_value.4 a.image_value.2 in
    let e = c.left_at-at.ensures in
    (omega (arith, r.2), omega (arith, a.image_value.6, e, many-new c.args.n _ a.image_value.4, c.put_word.auto.s, c.copy_run.auto.out))

pub word_at-requires : goal.word_at-requires
word_at-requires c =
    let a = c.requires in
    omega (arith, (changed-room _ _ a.image_value.0 a.image_value.1 a.image_value.3 a.by_index.0 a.by_index.1 _ a.image_value.4 a.image_value.2).1)

pub copy_run-requires-then-bit_at : goal.copy_run-requires-then-bit_at
copy_run-requires-then-bit_at c =
    let a = c.requires in
    let p = parted-by _ c.word_at.ensures c.bit_at.ensures in
    let r = kept-room _ _ a.image_value.0 a.image_value.1 a.image_value.3 a.by_index.0 a.by_index.1 _ a.image_value.4 a.image_value.2 a.image_value.5 c.left_at-at.ensures (sym p ∙ c.if-bit_at.true) in
    let l = a.image_value.6 ∙ ap (image_length 3 c.args.n c.args.lead) (sym p ∙ c.if-bit_at.true) in
    (omega (arith, r), omega (arith, l, c.left_at-at.ensures, many-new c.args.n _ a.image_value.4, c.copy_run-2.auto.out, c.put_word.auto.s, c.copy_run.auto.out))

pub returns-then-bit_at : goal.returns-then-bit_at
returns-then-bit_at c =
    let a = c.requires in
    let p = parted-by _ c.word_at.ensures c.bit_at.ensures in
    changed-image _ _ a.image_value.0 a.image_value.1 a.image_value.3 a.by_index.0 a.by_index.1 _ a.image_value.4 a.image_value.2 a.image_value.5 c.left_at-at.ensures c.args.out.now (sym p ∙ c.if-bit_at.true) a.image_value.6 (from_first _ _ _ c.copy_run.ensures) c.put_word.ensures c.copy_run-2.ensures c.copy_run-then-bit_at.ensures

pub returns : goal.returns
returns c =
    let a = c.requires in
    let p = parted-by _ c.word_at.ensures c.bit_at.ensures in
    changed-viewless _ _ a.image_value.0 a.image_value.1 a.image_value.3 a.by_index.0 a.by_index.1 _ a.image_value.4 a.image_value.2 a.image_value.5 c.left_at-at.ensures c.args.out.now (sym p ∙ c.if-bit_at.false) a.image_value.6 (from_first _ _ _ c.copy_run.ensures) c.put_word.ensures c.copy_run-2.ensures
