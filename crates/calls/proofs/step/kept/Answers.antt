-- By the form of the limits: what is asked and given by limits is asked and given of that form.
use mathlib.Core.Path.{subst}
use Prim.Native.Nat.{ℕ, ◌<◌}
use Rattle.setup.specs.declared.Limits.{Limits}
use Rattle.calls.specs.Held.{LentRange, kept_at}
use Rattle.calls.proofs.step.kept.Goals as goal

pub count-requires : goal.count-requires
count-requires c =
    let t = c.args in
    let a = c.requires.n_bound in
    let r = subst (λ (l : Limits). (j : ℕ) → j < t.n → LentRange l t.q t.criticality.now t.first.now t.second.now t.returns.now j) c.in-Counts.is c.requires.by_index in
    record { n_bound = (a.0, a.1); filled = (a.2, a.3, a.4, a.5); by_index = r }

pub fade-requires : goal.fade-requires
fade-requires c =
    let t = c.args in
    let a = c.requires.n_bound in
    let r = subst (λ (l : Limits). (j : ℕ) → j < t.n → LentRange l t.q t.criticality.now t.first.now t.second.now t.returns.now j) c.in-Fading.is c.requires.by_index in
    record { n_bound = (a.0, a.3, a.4, a.5); by_index = r }

pub returns-in-Counts : goal.returns-in-Counts
unfolding kept_at
returns-in-Counts c = rw c.in-Counts.is c.count.ensures

pub returns-in-Fading : goal.returns-in-Fading
unfolding kept_at
returns-in-Fading c = rw c.in-Fading.is c.fade.ensures
