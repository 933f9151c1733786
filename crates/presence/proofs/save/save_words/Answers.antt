-- What stands before the views, then the views where there are any.
use mathlib.Core.Path.{◌≡◌, ap, ◌∙◌}
use mathlib.Core.Bool.{Bool, true}
use Prim.Native.Nat.{ℕ, ◌+◌, ◌*◌, ◌≤◌}
use native.Mathlib.Omega.{arith}
use Rattle.setup.specs.Layout.{front_words}
use Rattle.setup.specs.Limits.{fades}
use Rattle.setup.proofs.SetupLaws.{verdict-fits}
use Rattle.changes.proofs.SectionTests.{new-most}
use Rattle.views.specs.Section.{views_count}
use Rattle.image.specs.Layout.{views_at}
use Rattle.presence.specs.Image.{state_length}
use Rattle.presence.specs.declared.State.{State}
use Rattle.presence.proofs.SaveLaws.{no-views-put, views-put, front-written}
use Rattle.presence.proofs.save.save_words.Goals as goal

-- the views end where the image ends
views-end : {at front k : ℕ} {b : Bool} (st : State) → at ≡ views_at front st.setup.n st.pending.left → front ≡ front_words b → b ≡ fades st.setup.limits
    → k ≡ state_length st st.pending.left → st.setup.partitionable ≡ true → (at + st.setup.n + 4) * 4 ≤ k
views-end st h e f l t =
    let c : views_count st.setup.partitionable st.setup.n ≡ st.setup.n + 4 = ap (λ (b : Bool). views_count b st.setup.n) t in
    omega (arith, h ∙ ap (λ (x : ℕ). views_at x st.setup.n st.pending.left) (e ∙ ap front_words f), l, c)

pub views_at-requires : goal.views_at-requires
views_at-requires c =
    (c.front_words-front.ensures.2, (verdict-fits _ c.requires.0).most)

pub save_views-requires : goal.save_views-requires
save_views-requires c =
    let f = c.front_words-front.ensures in
    let l = (verdict-fits _ c.requires.0).most in
    let h = c.views_at.ensures in
    let kept = c.save_front.auto.out ∙ c.requires.2 in
    (l, omega (arith, h, f.2, l, new-most c.args.state.setup.n c.args.state.pending.left), views-end c.args.state h f.0 c.fades.ensures kept c.if-setup.true)

pub returns-then-setup : goal.returns-then-setup
returns-then-setup c =
    let st = c.args.state in
    front-written st c.args.out.now c.save_front.ensures
    (c.save_views.ensures ∙ views-put _ st c.if-setup.true c.fades.ensures c.front_words-front.ensures.0 c.views_at.ensures)
    c.requires.2

pub returns : goal.returns
returns c =
    let st = c.args.state in
    front-written st c.args.out.now c.save_front.ensures (no-views-put _ _ st c.if-setup.false) c.requires.2
