-- Every field of a state that has room in its word is small.
use mathlib.Core.Path.{◌≡◌}
use mathlib.Core.Bool.{true, ◌&&◌}
use Prim.Native.Nat.{◌^◌, ◌<◌, ◌≤◌}
use native.Mathlib.Omega.{arith}
use lib.Dec.{leb, ltb}
use borrow.Author.Tests.{leb-true, ltb-true, le-leb, lt-ltb}
use Rattle.words.specs.Runs.{run_word}
use Rattle.words.proofs.Truth.{and_l, and_r, and-true}
use Rattle.words.proofs.VerdictLaws.{and-then-pass, single-pass}
use Rattle.setup.specs.Limits.{fades}
use Rattle.setup.specs.Check.{setup_verdict}
use Rattle.setup.proofs.SetupLaws.{verdict-fits}
use Rattle.changes.specs.Pending.{pending_roomy}
use Rattle.changes.proofs.PendingLaws.{PendingSmall, roomy-pending, pending-roomy}
use Rattle.views.proofs.ViewsLaws.{ViewsSmall, roomy-views, views-roomy}
use Rattle.image.specs.Rows.{rows_roomy}
use Rattle.image.specs.Counters.{counters_roomy}
use Rattle.image.specs.Check.{check_tail}
use Rattle.image.proofs.RowLaws.{RowsSmall, roomy-rows, rows-roomy}
use Rattle.image.proofs.CounterLaws.{AccountsSmall, roomy-accounts, accounts-roomy}
use Rattle.presence.specs.Image.{image_runs}
use Rattle.presence.specs.Valid.{roomy, state_verdict, Valid}
use Rattle.presence.specs.declared.State.{State}

pub record Small (st : State) : Type 0 where
  pub size : st.setup.n ≤ 16
  pub own : st.own ≤ 16
  pub view : st.counters.view < 2 ^ 16
  pub latest : st.latest < 2 ^ 16
  pub earlier : st.earlier < 2 ^ 16
  pub rows : RowsSmall st.setup.n st.previous
  pub counters : AccountsSmall (fades st.setup.limits) st.setup.n st.counters
  pub pending : PendingSmall st.setup.n st.pending
  pub views : ViewsSmall st.setup.partitionable st.setup.n st.views

pub roomy-small : (st : State) → st.setup.n ≤ 16 → roomy st ≡ true → Small st
unfolding roomy
roomy-small st l e =
    let n = st.setup.n in
    let alone = and_l ((leb st.own 16 && ltb st.counters.view (2 ^ 16)) && (ltb st.latest (2 ^ 16) && ltb st.earlier (2 ^ 16))) _ e in
    let parts = and_r ((leb st.own 16 && ltb st.counters.view (2 ^ 16)) && (ltb st.latest (2 ^ 16) && ltb st.earlier (2 ^ 16))) _ e in
    let a = and_l (leb st.own 16 && ltb st.counters.view (2 ^ 16)) _ alone in
    let b = and_r (leb st.own 16 && ltb st.counters.view (2 ^ 16)) _ alone in
    let counted = and_r (rows_roomy n st.previous) _ parts in
    let held = and_r (counters_roomy (fades st.setup.limits) n st.counters) _ counted in
    record {
      size = l;
      own = leb-true st.own 16 (and_l (leb st.own 16) _ a);
      view = ltb-true st.counters.view (2 ^ 16) (and_r (leb st.own 16) _ a);
      latest = ltb-true st.latest (2 ^ 16) (and_l (ltb st.latest (2 ^ 16)) _ b);
      earlier = ltb-true st.earlier (2 ^ 16) (and_r (ltb st.latest (2 ^ 16)) _ b);
      rows = roomy-rows n st.previous l (and_l (rows_roomy n st.previous) _ parts);
      counters = roomy-accounts (fades st.setup.limits) n st.counters l (and_l (counters_roomy (fades st.setup.limits) n st.counters) _ counted);
      pending = roomy-pending n st.pending l (and_l (pending_roomy n st.pending) _ held);
      views = roomy-views n st.views st.setup.partitionable l (and_r (pending_roomy n st.pending) _ held);
    }

pub small-roomy : (st : State) → Small st → roomy st ≡ true
unfolding roomy
small-roomy st m =
    and-true _ _
    (and-true _ _ (and-true _ _ (le-leb st.own 16 m.own) (lt-ltb st.counters.view (2 ^ 16) m.view))
    (and-true _ _ (lt-ltb st.latest (2 ^ 16) m.latest) (lt-ltb st.earlier (2 ^ 16) m.earlier)))
    (and-true _ _ (rows-roomy st.setup.n st.previous m.rows)
    (and-true _ _ (accounts-roomy (fades st.setup.limits) st.setup.n st.counters m.counters)
    (and-true _ _ (pending-roomy st.setup.n st.pending m.pending) (views-roomy st.setup.n st.views st.setup.partitionable m.views))))

-- what a valid state is: an accepted setup, room for every field, and words that pass
pub valid-setup : (st : State) → Valid st → (setup_verdict st.setup).number ≡ 0
unfolding state_verdict
valid-setup st e = (and-then-pass (setup_verdict st.setup) _ e).0

pub valid-roomy : (st : State) → Valid st → roomy st ≡ true
unfolding state_verdict
valid-roomy st e = single-pass (roomy st) 8 0 (omega arith) (and-then-pass _ _ (and-then-pass (setup_verdict st.setup) _ e).1).0

pub valid-tail : (st : State) → Valid st → (check_tail (fades st.setup.limits) (run_word (image_runs st)) st.setup.n).number ≡ 0
unfolding state_verdict
valid-tail st e = (and-then-pass _ (check_tail (fades st.setup.limits) (run_word (image_runs st)) st.setup.n) (and-then-pass (setup_verdict st.setup) _ e).1).1

pub valid-size : (st : State) → Valid st → st.setup.n ≤ 16
valid-size st e = (verdict-fits st.setup (valid-setup st e)).most

pub valid-small : (st : State) → Valid st → Small st
valid-small st e = roomy-small st (valid-size st e) (valid-roomy st e)
