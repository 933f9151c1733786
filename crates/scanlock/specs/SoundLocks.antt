-- What every history keeps: the limits, and that each axis fits the view. Proved in proofs/SoundLocks.antt.
use Rattle.std.specs.Prelude.{ℕ, ◌^◌, ◌≤◌, ◌<◌, ◌≡◌, Bool, true, cond, not, ◌&&◌, ◌||◌, eqb, leb, get_or, length}
use Rattle.scanlock.specs.Axis.{free, present}
use Rattle.scanlock.specs.Locks.{fresh_locks, event_of}
use Rattle.scanlock.specs.declared.Axis.{Axis}
use Rattle.scanlock.specs.declared.Locks.{Locks}
use Rattle.scanlock.specs.declared.Event.{Event}

-- held by a module of the view, or by nobody
unfoldable pub held_well : ℕ → Axis → Bool
held_well view x = cond (eqb x.depth 0) (eqb x.holder 0) (present view x.holder)

-- at most 8 deep; stopping only during a move
unfoldable pub axis_fits : ℕ → Axis → Bool
axis_fits view x = leb x.depth 8 && held_well view x && (x.moving || not x.stopping)

-- within the limits, and each axis fits the view
pub record SoundLocks (st : Locks) : Type 0 where
  pub least : 2 ≤ st.n
  pub most : st.n ≤ 16
  pub view : st.view < 2 ^ st.n
  pub eight : length st.axes ≡ 8
  pub each : (i : ℕ) → i < 8 → axis_fits st.view (get_or st.axes i free) ≡ true

-- an opening gives such locks, and every event keeps them
pub record StaySound : Type 0 where
  pub at_first : (n : ℕ) → 2 ≤ n → n ≤ 16 → SoundLocks (fresh_locks n)
  pub kept : (st : Locks) (e : Event) → SoundLocks st → SoundLocks (event_of st e).locks
