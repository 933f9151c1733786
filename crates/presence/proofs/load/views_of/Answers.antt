-- Those that are read, or none.
use mathlib.Core.Path.{ap, sym, subst, ◌∙◌, ◌≡◌}
use mathlib.Core.Bool.{Bool}
use native.Mathlib.Omega.{arith}
use lib.ListN.{length}
use Rattle.changes.proofs.SectionTests.{new-most}
use Rattle.views.specs.Section.{views_in}
use Rattle.image.specs.Layout.{views_at, image_length}
use Rattle.presence.proofs.load.views_of.Goals as goal

pub load_views-requires : goal.load_views-requires
load_views-requires c =
    let l = subst (λ (b : Bool). length c.args.s.now ≡ image_length c.args.front c.args.n c.args.left b) c.if-partitionable.true c.requires.2 in
    (c.requires.1, omega (arith, c.views_at.ensures, c.requires.0, c.requires.1, new-most c.args.n c.args.left), omega (arith, c.views_at.ensures, l))

pub returns-then-partitionable : goal.returns-then-partitionable
returns-then-partitionable c =
    let a = c.args in
    c.load_views.ensures
    ∙ (λ i. views_in (sym c.if-partitionable.true i) a.s.now a.n (c.views_at.ensures i))

pub returns : goal.returns
unfolding views_in
returns c =
    let a = c.args in
    c.no_views.ensures ∙ ap (λ (b : Bool). views_in b a.s.now a.n (views_at a.front a.n a.left)) (sym c.if-partitionable.false)
