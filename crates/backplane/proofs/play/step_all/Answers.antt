use Rattle.std.proofs.Common.{◌≡◌, ℕ, ◌<◌, length, refl, sym, ap, ◌∙◌, subst, arith}
use Rattle.words.specs.Array.{array}
use Rattle.words.specs.Table.{updated}
use Rattle.presence.specs.declared.State.{State}
use Rattle.presence.specs.Valid.{Valid}
use Rattle.presence.specs.Step.{Stepped}
use Rattle.backplane.specs.Play.{state_at, step_in, step_at, stepped_states, answered_health}
use Rattle.backplane.proofs.PlayLaws.{not-yet-stepped, state-stepped, health-stepped, state-kept, health-none}
use Rattle.backplane.proofs.play.step_all.Goals as goal
use Rattle.backplane.proofs.play.step_all.Goals.{in-Ok, in_default}

pub loop-i-init : goal.loop-i-init
unfolding updated array
loop-i-init c = (refl, refl)

pub step_one-requires : goal.step_one-requires
step_one-requires c =
    let l = c.loop-i in
    let a = c.args in
    let h : l.i < length a.held = omega arith in
    let v = c.requires.1 l.i (omega arith) in
    (omega arith, omega arith, subst Valid (sym (not-yet-stepped l.i _ a.held _ _ l.invariant.0 h)) v)

pub loop-i-preserved : goal.loop-i-preserved
loop-i-preserved c =
    let l = c.loop-i in
    let a = c.args in
    let h : l.i < length a.held = omega arith in
    let answer : ℕ → Stepped = λ k. step_in (state_at a.held k) a.setup.now a.this.now a.before.now k in
    let e = c.step_one.ensures ∙ ap (λ (st : State). step_in st a.setup.now a.this.now a.before.now l.i) (not-yet-stepped l.i _ a.held _ _ l.invariant.0 h) in
    let r = c.step_one.result in
    elim c.match-step_one.branch [
      | in-Ok b ↦ (
        b.states-is ∙ state-stepped r answer l.i _ e a.held b.in-Ok.is l.invariant.0,
        b.health-is ∙ health-stepped r answer l.i _ e b.in-Ok.is l.invariant.1,
      )
      | in_default b ↦ (
        b.states-is ∙ state-kept r answer l.i _ e _ a.held b.in_default.is refl l.invariant.0,
        b.health-is ∙ health-none r answer l.i _ e (omega arith) b.in_default.is l.invariant.1,
      )
    ]

pub returns : goal.returns
unfolding stepped_states answered_health step_at
returns c =
    let e : c.loop-i.i ≡ c.args.setup.now.n = omega arith in
    (rw e at c.loop-i.invariant.0, rw e at c.loop-i.invariant.1)
