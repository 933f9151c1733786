-- The place of the next round, and the round where there is one.
use Prim.Native.Nat.{◌<◌}
use mathlib.Core.Bool.{not}
use native.Mathlib.Omega.{arith}
use borrow.Author.Tests.{ltb-true}
use Rattle.words.proofs.Truth.{and_r}
use Rattle.backplane.specs.Run.{goes_on}
use Rattle.backplane.proofs.RunPartLaws.{next-played, next-over}
use Rattle.backplane.proofs.Run.next.Goals as goal

pub play-played-requires : goal.play-played-requires
play-played-requires c =
    let r : c.args.self.backplane.round < 100000 =
    ltb-true _ 100000 (and_r (not c.advance-cursor.result.over) _ c.if-cursor-backplane.true) in
    (c.requires, omega (arith, r))

pub returns-then-cursor-backplane : goal.returns-then-cursor-backplane
unfolding goes_on
returns-then-cursor-backplane c = next-played _ _ c.advance-cursor.ensures c.if-cursor-backplane.true c.play-played.ensures

pub returns : goal.returns
unfolding goes_on
returns c = next-over _ _ c.advance-cursor.ensures c.if-cursor-backplane.false
