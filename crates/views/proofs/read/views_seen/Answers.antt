-- Those that are read, or none.
use mathlib.Core.Path.{ap, sym, subst, ◌∙◌}
use mathlib.Core.Bool.{Bool}
use Prim.Native.Nat.{◌*◌, ◌≤◌}
use lib.ListN.{length}
use Rattle.words.proofs.ArrayLaws.{array-none}
use Rattle.views.specs.ViewWord.{read_words, views_seen}
use Rattle.views.proofs.read.views_seen.Goals as goal

pub read_views-requires : goal.read_views-requires
read_views-requires c =
    (c.requires.0, subst (λ (b : Bool). read_words b c.args.n * 4 ≤ length c.args.read.now) c.if-partitionable.true c.requires.1, array-none _)

pub returns-then-partitionable : goal.returns-then-partitionable
unfolding views_seen
returns-then-partitionable c =
    let a = c.args in
    c.read_views.ensures ∙ ap (λ (b : Bool). views_seen b a.n a.read.now a.controller) (sym c.if-partitionable.true)

pub returns : goal.returns
unfolding views_seen
returns c =
    let a = c.args in
    ap (λ (b : Bool). views_seen b a.n a.read.now a.controller) (sym c.if-partitionable.false)
