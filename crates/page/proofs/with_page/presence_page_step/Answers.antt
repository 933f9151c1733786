-- A step as without a page; where it is accepted the page is written after it.
use mathlib.Core.Path.{ap, ◌∙◌}
use Rattle.setup.specs.Layout.{front_words}
use Rattle.page.proofs.PageStepLaws.{step-no-page, step-refused, checked, image-room, image-whole, in-read, in-output, before_small, codes-of, step-paged}
use Rattle.page.proofs.with_page.presence_page_step.Goals as goal

pub returns-then-page-ne64 : goal.returns-then-page-ne64
returns-then-page-ne64 c =
    step-no-page _ _ _ _ _ c.presence_step.ensures c.if-page-ne64.true

pub returns-then-answer-ne0 : goal.returns-then-answer-ne0
returns-then-answer-ne0 c =
    step-refused _ _ _ _ c.presence_step-answer.ensures _ c.if-page-ne64.false c.if-answer-ne0.true

pub size_at-n-requires : goal.size_at-n-requires
size_at-n-requires c =
    image-room _ _ _ _ c.presence_step-answer.ensures c.if-answer-ne0.false

pub fades_at-requires : goal.fades_at-requires
fades_at-requires c =
    image-whole _ _ _ _ c.presence_step-answer.ensures c.if-answer-ne0.false

pub found_view-before-requires : goal.found_view-before-requires
found_view-before-requires c =
    (checked _ _ _ _ c.presence_step-answer.ensures c.if-answer-ne0.false, c.front_words-front.ensures.0 ∙ ap front_words c.fades_at.ensures, c.size_at-n.ensures)

pub shown_in-after-requires : goal.shown_in-after-requires
shown_in-after-requires c =
    in-output _ _ _ _ c.presence_step-answer.ensures c.if-answer-ne0.false c.size_at-n.ensures c.fades_at.ensures c.front_words-front.ensures.0

pub causes-causes-requires : goal.causes-causes-requires
causes-causes-requires c =
    in-read _ _ _ _ c.presence_step-answer.ensures c.if-answer-ne0.false c.size_at-n.ensures

pub step_page-requires : goal.step_page-requires
step_page-requires c =
    let small = (in-read _ _ _ _ c.presence_step-answer.ensures c.if-answer-ne0.false c.size_at-n.ensures).0 in (
      small,
      before_small _ _ _ _ c.presence_step-answer.ensures c.if-answer-ne0.false c.size_at-n.ensures c.fades_at.ensures c.front_words-front.ensures.0 c.found_view-before.ensures,
      c.if-page-ne64.false,
      codes-of _ _ _ small c.causes-causes.ensures,
    )

pub returns : goal.returns
returns c =
    step-paged _ _ _ _ c.presence_step-answer.ensures c.if-answer-ne0.false c.size_at-n.ensures c.fades_at.ensures c.front_words-front.ensures.0 c.found_view-before.ensures _ c.if-page-ne64.false
    c.shown_in-after.ensures c.causes-causes.ensures c.step_page.ensures
