-- By head bit 5 the adopted view, or the local one.
use native.Mathlib.Omega.{arith}
use Rattle.page.proofs.FoundLaws.{bounds, sections-room, left-room, head-room, shown-local, adopted-room, adopted-small, shown-adopted}
use Rattle.page.proofs.with_page.shown_in.Goals as goal

pub word_at-requires : goal.word_at-requires
word_at-requires c =
    let a = c.requires in
    head-room _ a.0 a.1 a.2

pub left_at-requires : goal.left_at-requires
left_at-requires c =
    let a = c.requires in
    bounds _ a.0 a.1 a.2

pub word_at-left-requires : goal.word_at-left-requires
word_at-left-requires c =
    let a = c.requires in
    left-room _ a.0 a.1 a.2 c.left_at.ensures

pub views_at-requires : goal.views_at-requires
views_at-requires c =
    let a = c.requires in
    bounds _ a.0 a.1 a.2

pub overflow_add-views_at : goal.overflow_add-views_at
overflow_add-views_at c =
    let a = c.requires in
    let b = bounds _ a.0 a.1 a.2 in
    let v = adopted-small _ a.0 a.1 a.2 c.word_at.ensures c.bit_at.ensures c.if-bit_at.true c.left_at.ensures c.word_at-left.ensures c.views_at.ensures in
    omega (arith, v, b.1)

pub overflow_add-views_at-then-bit_at : goal.overflow_add-views_at-then-bit_at
overflow_add-views_at-then-bit_at c =
    let a = c.requires in
    let b = bounds _ a.0 a.1 a.2 in
    let v = adopted-small _ a.0 a.1 a.2 c.word_at.ensures c.bit_at.ensures c.if-bit_at.true c.left_at.ensures c.word_at-left.ensures c.views_at.ensures in
    omega (arith, v, b.1)

pub word_at-requires-then-bit_at : goal.word_at-requires-then-bit_at
word_at-requires-then-bit_at c =
    let a = c.requires in
    adopted-room _ a.0 a.1 a.2 c.word_at.ensures c.bit_at.ensures c.if-bit_at.true c.left_at.ensures c.word_at-left.ensures c.views_at.ensures

pub returns-then-bit_at : goal.returns-then-bit_at
returns-then-bit_at c =
    let a = c.requires in
    shown-adopted _ a.0 a.1 a.2 c.word_at.ensures c.bit_at.ensures c.if-bit_at.true c.left_at.ensures c.word_at-left.ensures c.views_at.ensures
    c.word_at-then-bit_at.ensures

pub view_in-requires : goal.view_in-requires
view_in-requires c =
    let a = c.requires in
    let b = bounds _ a.0 a.1 a.2 in
    (b.0, b.1, sections-room _ a.0 a.1 a.2)

pub returns : goal.returns
returns c =
    let a = c.requires in
    shown-local _ a.0 a.1 a.2 c.word_at.ensures c.bit_at.ensures c.if-bit_at.false c.view_in.ensures
