-- A play that is over makes room for the next one; else one of its rounds passes, without events.
use Rattle.script.proofs.GatherLaws.{next-play, next-round}
use borrow.Author.Rules.{rules}
use Rattle.script.proofs.Cursor.advance.Goals as goal

pub returns-then-self-eq0 : goal.returns-then-self-eq0
returns-then-self-eq0 c = next-play _ _ c.next_play.ensures c.if-self-eq0.true

pub returns : goal.returns
returns c = next-round _ _ c.none-quiet.ensures (search rules)
