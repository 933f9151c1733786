-- The parts are put together.
use native.Mathlib.Omega.{arith}
use Rattle.backplane.proofs.PlayLaws.{play-made}
use Rattle.backplane.proofs.Backplane.play.Goals as goal

pub sent_words-sent-requires : goal.sent_words-sent-requires
sent_words-sent-requires c = c.requires.0.few

pub sent_views-views-requires : goal.sent_views-views-requires
sent_views-views-requires c = c.requires.0.few

pub arrived-bus-requires : goal.arrived-bus-requires
arrived-bus-requires c = c.requires.0.few

pub step_all-steps-requires : goal.step_all-steps-requires
step_all-steps-requires c = (c.requires.0.few, c.requires.0.valid)

pub hearing-heard-requires : goal.hearing-heard-requires
hearing-heard-requires c = c.requires.0.few

pub counting-view-requires : goal.counting-view-requires
counting-view-requires c = c.requires.0.few

pub earlier-then-requires : goal.earlier-then-requires
earlier-then-requires c = c.requires.0.few

pub kept_over-requires : goal.kept_over-requires
kept_over-requires c = c.requires.0.few

pub overflow_add-result : goal.overflow_add-result
overflow_add-result c = omega (arith, c.requires.1)

pub returns : goal.returns
returns c =
    play-made _ _ c.sent_words-sent.ensures c.sent_views-views.ensures c.arrived-bus.ensures c.step_all-steps.ensures.0 c.step_all-steps.ensures.1
    c.hearing-heard.ensures c.counting-view.ensures c.earlier-then.ensures c.kept_over.ensures
