-- What the picks choose is the account of the definition.
use Prim.Native.Nat.{ℕ, ◌≤◌}
use mathlib.Core.Bool.{not, ◌&&◌}
use native.Mathlib.Omega.{arith}
use Rattle.words.proofs.Truth.{cond_both}
use Rattle.accounts.proofs.AccountLaws.{account-by}
use Rattle.accounts.proofs.Account.accounted.Goals as goal

pub overflow_add-grown : goal.overflow_add-grown
overflow_add-grown c =
    let f = c.requires in
    let g : c.pick.result ≤ 100000 = rw c.pick.ensures (cond_both (λ (v : ℕ). v ≤ 100000) (c.args.self.present && not c.args.healthy) _ 0 f.charge (omega arith)) in
    omega (arith, f.penalty)

pub returns : goal.returns
returns c =
    let a = c.args in
    account-by a.p a.r a.q a.criticality a.healthy a.self c.requires.present c.requires.below
    c.flag.ensures.0
    c.pick.ensures c.pick-2.ensures c.pick-penalty.ensures
    c.pick-3.ensures c.pick-4.ensures
