-- The views of the image, after the round, behind the rounds left and the new words.
use native.Mathlib.Omega.{arith}
use mathlib.Core.Path.{◌≡◌, ap, ◌∙◌}
use mathlib.Core.Bool.{true, cond}
use mathlib.Core.List.{List}
use Prim.Native.Nat.{ℕ, ◌-◌}
use lib.ListN.{get_or}
use lib.Dec.{ltb}
use Rattle.words.specs.Array.{array}
use Rattle.words.specs.Runs.{put_runs}
use Rattle.changes.proofs.SectionTests.{new-most}
use Rattle.views.specs.ViewWord.{views_read}
use Rattle.views.specs.Views.{views_after}
use Rattle.views.specs.Section.{views_in, view_runs}
use Rattle.image.specs.Layout.{views_at}
use Rattle.calls.proofs.step.save_views.Goals as goal

-- the views after a step, by the places of the words
moved : {at at' to to' : ℕ} (o s read : List ℕ) (n split controller before after : ℕ) → at ≡ at' → to ≡ to'
    → put_runs o to (view_runs true n after (views_after n (views_in true s n at)
    (array n (λ j. cond (ltb j split) (get_or (views_in true s n at).words j 0) (get_or (views_read n read controller) j 0))) (views_read n read controller) before))
    ≡ put_runs o to' (view_runs true n after (views_after n (views_in true s n at')
    (array n (λ j. cond (ltb j split) (get_or (views_in true s n at').words j 0) (get_or (views_read n read controller) j 0))) (views_read n read controller) before))
moved o s read n split controller before after e f =
    λ i. put_runs o (f i) (view_runs true n after (views_after n (views_in true s n (e i))
    (array n (λ j. cond (ltb j split) (get_or (views_in true s n (e i)).words j 0) (get_or (views_read n read controller) j 0))) (views_read n read controller) before))

pub agree-requires : goal.agree-requires
agree-requires c =
    let p = c.requires in
    let a = c.views_at.ensures in
    let b = c.views_at-2.ensures ∙ ap (views_at c.args.front c.args.n) c.left_after.ensures in
    let j = new-most c.args.n c.args.left in
    let k = new-most c.args.n (c.args.left - 1) in
    (p.1, omega (arith, p.0, p.1), omega (arith, p.2), p.3, omega (arith, p.0, p.1), omega (arith, p.4))

pub returns : goal.returns
returns c =
    let a = c.args in
    c.agree.ensures
    ∙ moved a.out.now a.image.now a.read.now a.n a.split a.controller a.before a.after c.views_at.ensures
    (c.views_at-2.ensures ∙ ap (views_at a.front a.n) c.left_after.ensures)
