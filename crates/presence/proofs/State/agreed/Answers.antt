-- None, or those that the view words decide.
use borrow.Author.Tests.{not-true, not-false}
use Rattle.presence.proofs.ValidLaws.{valid-fits}
use Rattle.presence.proofs.StateRoundLaws.{views-none, views-made}
use Rattle.presence.proofs.State.agreed.Goals as goal

pub returns-then-not-self : goal.returns-then-not-self
returns-then-not-self c = views-none _ _ c.no_views.ensures (not-true _ c.if-not-self.true)

pub is_skewed-skew-requires : goal.is_skewed-skew-requires
is_skewed-skew-requires c = (valid-fits _ c.requires).setup.most

pub views_after-requires : goal.views_after-requires
views_after-requires c = (valid-fits _ c.requires).setup.most

pub returns : goal.returns
returns c =
    views-made _ _ c.is_skewed-skew.ensures c.place.ensures c.pick-split.ensures c.views_after.ensures
    (not-false _ c.if-not-self.false)
