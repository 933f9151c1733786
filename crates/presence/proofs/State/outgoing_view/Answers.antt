-- 0, or the word of one of the two local views.
use borrow.Author.Tests.{not-true, not-false}
use Rattle.presence.proofs.StateRoundLaws.{handed-none, handed-made, handed-small}
use Rattle.presence.proofs.State.outgoing_view.Goals as goal

pub returns-then-not-self : goal.returns-then-not-self
returns-then-not-self c = handed-none _ _ (not-true _ c.if-not-self.true)

pub view_word-requires : goal.view_word-requires
view_word-requires c =
    handed-small _ _ c.marked.result c.requires.0 c.requires.1 c.pick.ensures

pub returns : goal.returns
returns c =
    handed-made _ _ c.marked.ensures c.pick.ensures c.view_word.ensures
    (not-false _ c.if-not-self.false)
