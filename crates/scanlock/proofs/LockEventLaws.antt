-- How the answer of a function follows from the way that its tests came out.
use mathlib.Core.Path.{◌≡◌, refl, sym, ap, ◌∙◌}
use mathlib.Core.Bool.{Bool, true, false, cond, ◌&&◌}
use Rattle.std.specs.Prelude.{Some, None, Err}
use Prim.Native.Nat.{ℕ, ◌-◌, ◌^◌, ◌≤◌, ◌<◌}
use native.Mathlib.Omega.{arith}
use mathlib.Core.Logic.{⊎_elim}
use borrow.Author.Tests.{leb-true, leb-false, lt-ltb, ne_eqb}
use mathlib.Core.List.{List}
use native.Mathlib.Nat.{le_refl}
use lib.Dec.{eqb, leb, ltb}
use lib.ListN.{get_or, set, replicate}
use lib.Pow.{pow_mono}
use Rattle.words.specs.Bits.{bit, full}
use Rattle.words.proofs.Truth.{which, and_l, and_r, cond-true, cond-false}
use Rattle.words.specs.Table.{updated}
use Rattle.words.specs.Refusal.{code}
use Rattle.words.specs.declared.Number.{Number}
use Rattle.words.proofs.RefusalLaws.{code-positive}
use Rattle.words.proofs.BitLaws.{bit_high}
use Rattle.words.proofs.TableLaws.{updated-above}
use Rattle.scanlock.specs.Axis.{AxisAnswer, free, axis, axis_answer, present, on_axis, shallower}
use Rattle.scanlock.specs.Locks.{event_answer, event_told, locks, fresh_locks, index_of, admits, settled_of, refused_of}
use Rattle.scanlock.specs.declared.Axis.{Axis}
use Rattle.scanlock.specs.declared.Locks.{Locks}

-- ---- one test

module _ {A : Type 0} where
  pub yes : {r x : A} {t : Bool} (y : A) → t ≡ true → r ≡ x → r ≡ cond t x y
  yes {r} {x} {t} y e h = h ∙ sym (cond-true x y e)

  pub no : {r y : A} {t : Bool} (x : A) → t ≡ false → r ≡ y → r ≡ cond t x y
  no {r} {y} {t} x e h = h ∙ sym (cond-false x y e)

-- ---- modules and axes

pub present-bit : (v by : ℕ) {r : Bool} → leb 1 by && leb by 32 ≡ true → r ≡ bit v (by - 1) → r ≡ present v by
unfolding present
present-bit v by e h = rw (and_l (leb 1 by) _ e) h

-- a module above 32 has no bit in a word
pub present-none : (v by : ℕ) → v < 2 ^ 32 → leb 1 by && leb by 32 ≡ false → false ≡ present v by
unfolding present
present-none v by h e =
    ⊎_elim
    (λ (t : leb 1 by ≡ true).
    let f : leb by 32 ≡ false = rw t at e in
    let k : 32 ≤ by - 1 = omega (arith, leb-false by 32 f) in
    rw (t, bit_high v 32 (by - 1) h k) refl)
    (λ (f : leb 1 by ≡ false). rw f refl)
    (which (leb 1 by))

pub in_bounds : (l m a : ℕ) → leb l a && leb a m ≡ true → (l ≤ a) × (a ≤ m)
in_bounds l m a e = (leb-true l a (and_l (leb l a) _ e), leb-true a m (and_r (leb l a) _ e))

pub on-axis : (a : ℕ) → on_axis a ≡ true → (1 ≤ a) × (a ≤ 8)
unfolding on_axis
on-axis a e = in_bounds 1 8 a e

pub admitted : (st : Locks) (by a : ℕ) → admits st by a ≡ true → (1 ≤ a) × (a ≤ 8)
unfolding admits
admitted st by a e = on-axis a (and_l (on_axis a) _ (and_l (on_axis a && leb by st.n) _ e))

-- every view is below a large enough power of 2
pub every-view-fits : (v n : ℕ) → v < 2 ^ 32 → 32 ≤ n → true ≡ ltb v (2 ^ n)
every-view-fits v n h k = sym (lt-ltb v (2 ^ n) (omega (arith, pow_mono {i = 32} {j = n} k)))

-- ---- the axis that an event names

-- it is the one at the index that code has
pub index-is : (may : Bool) (a i : ℕ) → Some i ≡ index_of may a → (may ≡ true) × (i ≡ a - 1)
index-is true a i e = (refl, cc)
index-is false a i e = absurd (cc)

pub index-none : (may : Bool) (a : ℕ) → None ≡ index_of may a → may ≡ false
index-none true a e = absurd (cc)
index-none false a e = refl

-- an event on it that the axis accepts
pub event-done : (st : Locks) (may : Bool) (a i : ℕ) (t : AxisAnswer) {y : Axis} → Some i ≡ index_of may a → axis_answer 0 y ≡ t
    → event_answer 0 (locks st.n st.view (set st.axes i y)) ≡ cond may (settled_of st a t) (refused_of st 19)
unfolding settled_of
event-done st true a i t e h =
    let (_, k) = index-is true a i e in
    rw (k, ← h) refl
event-done st false a i t e h = absurd (cc)

-- and one that it refuses
pub event-refused : (st : Locks) (may : Bool) (a i : ℕ) (t : AxisAnswer) (x : Axis) (number : Number) → Some i ≡ index_of may a
    → axis_answer (code number) x ≡ t → event_told st (Err number) ≡ cond may (settled_of st a t) (refused_of st 19)
unfolding settled_of
event-refused st true a i t x number e h =
    let p = code-positive number in
    let z : eqb (code number) 0 ≡ false = ne_eqb (code number) 0 (omega arith) in
    rw (← h, z) refl
event-refused st false a i t x number e h = absurd (cc)

-- the fields of an axis after an end, put together
pub end-made : (x : Axis) {h : ℕ} → h ≡ cond (eqb x.depth 1) 0 x.holder
    → axis_answer 0 (axis h (x.depth - 1) x.moving x.stopping) ≡ axis_answer 0 (shallower x)
unfolding shallower
end-made x e = ap (λ (h : ℕ). axis_answer 0 (axis h (x.depth - 1) x.moving x.stopping)) e

-- an axis that a loop has not come to is as it was
pub not-yet-seen : (i : ℕ) (f : ℕ → Axis) (l : List Axis) {m : List Axis} → m ≡ updated i f l → get_or m i free ≡ get_or l i free
not-yet-seen i f l e = rw e (updated-above i f l i free (le_refl i))

-- ---- opening

pub fresh-locks-made : (n : ℕ) {v : ℕ} → v ≡ full n → locks n v (replicate 8 free) ≡ fresh_locks n
unfolding fresh_locks
fresh-locks-made n h = ap (λ (v : ℕ). locks n v (replicate 8 free)) h
