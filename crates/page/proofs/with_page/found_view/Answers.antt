-- Where a change is due the words tell the view after it; else it is the image's own.
use Rattle.page.proofs.FoundLaws.{bounds, sections-room, left-room, found-held, due-room, found-turned}
use Rattle.page.proofs.with_page.found_view.Goals as goal

pub left_at-requires : goal.left_at-requires
left_at-requires c =
    let a = c.requires in
    bounds _ a.0 a.1 a.2

pub word_at-requires : goal.word_at-requires
word_at-requires c =
    let a = c.requires in
    left-room _ a.0 a.1 a.2 c.left_at.ensures

pub turned_view-requires : goal.turned_view-requires
turned_view-requires c =
    let a = c.requires in
    due-room _ a.0 a.1 a.2 c.left_at.ensures c.word_at.ensures c.if-word_at-eq1.true

pub returns-then-word_at-eq1 : goal.returns-then-word_at-eq1
returns-then-word_at-eq1 c =
    let a = c.requires in
    found-turned _ a.0 a.1 a.2 c.left_at.ensures c.word_at.ensures c.if-word_at-eq1.true c.turned_view.ensures

pub view_in-requires : goal.view_in-requires
view_in-requires c =
    let a = c.requires in
    let b = bounds _ a.0 a.1 a.2 in
    (b.0, b.1, sections-room _ a.0 a.1 a.2)

pub returns : goal.returns
returns c =
    let a = c.requires in
    found-held _ a.0 a.1 a.2 c.left_at.ensures c.word_at.ensures c.if-word_at-eq1.false c.view_in.ensures
