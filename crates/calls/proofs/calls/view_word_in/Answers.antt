-- The mark of the module itself, and the two local views.
use native.Mathlib.Omega.{arith}
use mathlib.Core.Path.{ap, ◌∙◌, sym}
use borrow.Author.Tests.{not-true, not-false}
use Rattle.words.specs.Word.{word_at}
use Rattle.image.proofs.TailLaws.{image-pass}
use Rattle.calls.proofs.ModuleCallLaws.{parted-by, front_by, views-room, view-small, view_made, no-view-made}
use Rattle.calls.proofs.calls.view_word_in.Goals as goal

pub word_at-requires : goal.word_at-requires
word_at-requires c = omega (arith, (image-pass _ c.requires).front.room)

pub returns-then-not-bit_at : goal.returns-then-not-bit_at
returns-then-not-bit_at c = no-view-made _ (sym (parted-by _ c.word_at.ensures c.bit_at.ensures) ∙ not-true _ c.if-not-bit_at.true-raw)

pub size_at-n-requires : goal.size_at-n-requires
size_at-n-requires c = (image-pass _ c.requires).front.room

pub fades_at-requires : goal.fades_at-requires
fades_at-requires c = (image-pass _ c.requires).front.whole

pub own_mark-mark-requires : goal.own_mark-mark-requires
own_mark-mark-requires c = (c.requires, front_by _ c.fades_at.ensures c.front_words-front.ensures.0, c.size_at-n.ensures)

pub left_at-requires : goal.left_at-requires
left_at-requires c = (c.front_words-front.ensures.2, omega (arith, (image-pass _ c.requires).front.most, c.size_at-n.ensures))

pub word_at-requires-2 : goal.word_at-requires-2
word_at-requires-2 c =
    let f = image-pass _ c.requires in
    let e = front_by _ c.fades_at.ensures c.front_words-front.ensures.0 in
    omega (arith, f.size, e, c.size_at-n.ensures, c.left_at.ensures)

pub views_at-at-requires : goal.views_at-at-requires
views_at-at-requires c = (c.front_words-front.ensures.2, omega (arith, (image-pass _ c.requires).front.most, c.size_at-n.ensures))

pub overflow_add-at : goal.overflow_add-at
overflow_add-at c =
    let f = image-pass _ c.requires in
    let r = views-room _ f c.size_at-n.ensures (front_by _ c.fades_at.ensures c.front_words-front.ensures.0) (sym (parted-by _ c.word_at.ensures c.bit_at.ensures) ∙ not-false _ c.if-not-bit_at.false-raw) (c.word_at-2.ensures ∙ ap (word_at _) c.left_at.ensures) c.views_at-at.ensures in
    omega (arith, r.0, f.front.most, c.size_at-n.ensures)

pub overflow_add-at-2 : goal.overflow_add-at-2
overflow_add-at-2 c =
    let f = image-pass _ c.requires in
    let r = views-room _ f c.size_at-n.ensures (front_by _ c.fades_at.ensures c.front_words-front.ensures.0) (sym (parted-by _ c.word_at.ensures c.bit_at.ensures) ∙ not-false _ c.if-not-bit_at.false-raw) (c.word_at-2.ensures ∙ ap (word_at _) c.left_at.ensures) c.views_at-at.ensures in
    omega (arith, r.0, f.front.most, c.size_at-n.ensures)

pub word_at-requires-3 : goal.word_at-requires-3
word_at-requires-3 c =
    let f = image-pass _ c.requires in
    let r = views-room _ f c.size_at-n.ensures (front_by _ c.fades_at.ensures c.front_words-front.ensures.0) (sym (parted-by _ c.word_at.ensures c.bit_at.ensures) ∙ not-false _ c.if-not-bit_at.false-raw) (c.word_at-2.ensures ∙ ap (word_at _) c.left_at.ensures) c.views_at-at.ensures in
    omega (arith, r.1)

pub overflow_add-at-3 : goal.overflow_add-at-3
overflow_add-at-3 c =
    let f = image-pass _ c.requires in
    let r = views-room _ f c.size_at-n.ensures (front_by _ c.fades_at.ensures c.front_words-front.ensures.0) (sym (parted-by _ c.word_at.ensures c.bit_at.ensures) ∙ not-false _ c.if-not-bit_at.false-raw) (c.word_at-2.ensures ∙ ap (word_at _) c.left_at.ensures) c.views_at-at.ensures in
    omega (arith, r.0, f.front.most, c.size_at-n.ensures)

pub word_at-requires-4 : goal.word_at-requires-4
word_at-requires-4 c =
    let f = image-pass _ c.requires in
    let r = views-room _ f c.size_at-n.ensures (front_by _ c.fades_at.ensures c.front_words-front.ensures.0) (sym (parted-by _ c.word_at.ensures c.bit_at.ensures) ∙ not-false _ c.if-not-bit_at.false-raw) (c.word_at-2.ensures ∙ ap (word_at _) c.left_at.ensures) c.views_at-at.ensures in
    omega (arith, r.1)

pub view_word-requires : goal.view_word-requires
view_word-requires c =
    let f = image-pass _ c.requires in
    view-small _ f c.size_at-n.ensures (front_by _ c.fades_at.ensures c.front_words-front.ensures.0) (sym (parted-by _ c.word_at.ensures c.bit_at.ensures) ∙ not-false _ c.if-not-bit_at.false-raw) (c.word_at-2.ensures ∙ ap (word_at _) c.left_at.ensures) c.views_at-at.ensures c.own_mark-mark.result c.word_at-3.ensures c.word_at-4.ensures c.pick.ensures

pub returns : goal.returns
returns c =
    let f = image-pass _ c.requires in
    view_made _ f c.size_at-n.ensures (front_by _ c.fades_at.ensures c.front_words-front.ensures.0) (sym (parted-by _ c.word_at.ensures c.bit_at.ensures) ∙ not-false _ c.if-not-bit_at.false-raw) (c.word_at-2.ensures ∙ ap (word_at _) c.left_at.ensures) c.views_at-at.ensures c.own_mark-mark.ensures c.word_at-3.ensures c.word_at-4.ensures c.pick.ensures c.view_word.ensures
