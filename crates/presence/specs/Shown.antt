-- The view that is shown. (document 02, E11: "The rules, and demand 3, go on with the local view; the register page, the bench and the scan lock take
-- the adopted one.")
use Rattle.std.specs.Prelude.{ℕ, cond}
use Rattle.presence.specs.declared.State.{State}

-- what page, bench and scan lock take: the adopted view where the setup is partitionable, else the local view
unfoldable pub shown_view : State → ℕ
shown_view st = cond st.setup.partitionable st.views.adopted st.counters.view
