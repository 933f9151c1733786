-- An opening as without a page; where it is accepted the page is written after it.
use Rattle.page.proofs.OpenLaws.{open-no-page, open-refused, setup-room, setup-whole, few, in-fresh, open-paged}
use Rattle.page.proofs.with_page.presence_page_open.Goals as goal

pub returns-then-page-ne64 : goal.returns-then-page-ne64
returns-then-page-ne64 c = open-no-page _ _ _ _ c.presence_open.ensures c.if-page-ne64.true

pub returns-then-answer-ne0 : goal.returns-then-answer-ne0
returns-then-answer-ne0 c =
    open-refused _ _ _ c.presence_open-answer.ensures _ c.if-page-ne64.false c.if-answer-ne0.true

pub size_at-n-requires : goal.size_at-n-requires
size_at-n-requires c = setup-room _ _ _ c.presence_open-answer.ensures c.if-answer-ne0.false

pub fades_at-requires : goal.fades_at-requires
fades_at-requires c = setup-whole _ _ _ c.presence_open-answer.ensures c.if-answer-ne0.false

pub shown_in-view-requires : goal.shown_in-view-requires
shown_in-view-requires c =
    let f = c.front_words.ensures in
    in-fresh _ _ _ c.presence_open-answer.ensures c.if-answer-ne0.false c.size_at-n.ensures c.fades_at.ensures f.0

pub open_page-requires : goal.open_page-requires
open_page-requires c = (
  few _ _ _ c.presence_open-answer.ensures c.if-answer-ne0.false c.size_at-n.ensures c.fades_at.ensures c.front_words.ensures.0,
  c.if-page-ne64.false,
)

pub returns : goal.returns
returns c =
    open-paged _ _ _ c.presence_open-answer.ensures c.if-answer-ne0.false c.size_at-n.ensures c.fades_at.ensures c.front_words.ensures.0 _ c.if-page-ne64.false
    c.shown_in-view.ensures c.open_page.ensures
