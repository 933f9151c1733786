-- Laws of events: what one more event changes, and that lies by senders of the cast alone stay so.
use mathlib.Core.Path.{◌≡◌, ◌∙◌, sym, ap}
use mathlib.Core.Logic.{⊎_elim}
use mathlib.Core.Bool.{Bool, true, false, cond, ◌&&◌}
use mathlib.Core.List.{List}
use Prim.Native.Nat.{ℕ, ◌+◌, ◌-◌, ◌*◌, ◌/◌, ◌%◌, ◌<◌}
use native.Mathlib.Omega.{arith}
use lib.Dec.{eqb}
use lib.ListN.{get_or, replicate, get_or-replicate}
use borrow.Author.Tests.{eqb-true}
use Rattle.words.specs.Bits.{bit}
use Rattle.words.specs.Table.{updated, table}
use Rattle.words.proofs.TableLaws.{table_at}
use Rattle.words.proofs.Truth.{which, and_l, cond-true, cond-false}
use Rattle.script.specs.Words.{kind_of, sender_in, receivers_in}
use Rattle.script.specs.Events.{none, concerns, with_event}
use Rattle.script.specs.Told.{ToldBy}
use Rattle.script.specs.Effect.{Replaces}
use Rattle.script.specs.declared.Events.{Events}

concerns-sender : (w x : ℕ) → concerns w x ≡ true → sender_in w ≡ x % 16 + 1
unfolding concerns
concerns-sender w x t = eqb-true (sender_in w) (x % 16 + 1) (and_l (eqb (sender_in w) (x % 16 + 1)) _ t)

pub told_none : (cast : ℕ) → ToldBy cast none
unfolding none
told_none cast x h e =
    let z : ◌≡◌ {A = ℕ} (get_or (replicate 256 0) x 0) 0 = get_or-replicate {A = ℕ} 256 x 0 0 h in
    absurd (omega arith)

-- the events of a loop that has gone through all entries
pub with-by : {fate told views : List ℕ} {x : ℕ} (e : Events) (w t v : ℕ) → x ≡ 256
    → fate ≡ updated x (λ y. cond (concerns w y) (kind_of w) (get_or e.fate y 0)) (replicate 256 0)
    → told ≡ updated x (λ y. cond (concerns w y) t (get_or e.told y 0)) (replicate 256 0)
    → views ≡ updated x (λ y. cond (concerns w y) v (get_or e.views y 0)) (replicate 256 0)
    → record { fate = fate; told = told; views = views } ≡ with_event e w t v
unfolding with_event table
with-by e w t v h f g k = rw (f, g, k, h)

-- one more event, which is a loss, or a lie by a sender of the cast
pub told_with : (cast w t v : ℕ) (e : Events) → ToldBy cast e → (kind_of w ≡ 8 → bit cast (sender_in w - 1) ≡ true) → ToldBy cast (with_event e w t v)
unfolding with_event
told_with cast w t v e old lie x h q =
    let p : cond (concerns w x) (kind_of w) (get_or e.fate x 0) ≡ 8 =
    sym (table_at (λ y. cond (concerns w y) (kind_of w) (get_or e.fate y 0)) x h) ∙ q
    in
    ⊎_elim
    (λ (c : concerns w x ≡ true).
    let z : sender_in w - 1 ≡ x % 16 =
    let d = concerns-sender w x c in
    omega arith
    in
    rw z at (lie (sym (cond-true _ _ c) ∙ p)))
    (λ (c : concerns w x ≡ false). old x h (sym (cond-false _ _ c) ∙ p))
    (which (concerns w x))

-- ---- by receiver and sender

-- the entry of receiver i + 1 and sender j + 1
pub entry-below : (i j : ℕ) → i < 16 → j < 16 → i * 16 + j < 256
entry-below i j h l = omega arith

concerns-at : (w i j : ℕ) → j < 16 → concerns w (i * 16 + j) ≡ eqb (sender_in w) (j + 1) && bit (receivers_in w) i
unfolding concerns
concerns-at w i j l =
    let a : (i * 16 + j) % 16 ≡ j = omega arith in
    let b : (i * 16 + j) / 16 ≡ i = omega arith in
    rw (a, b)

pub replaces : Replaces
unfolding with_event
replaces e w t v i j h l =
    let x = i * 16 + j in
    let c = concerns-at w i j l in (
      table_at (λ y. cond (concerns w y) (kind_of w) (get_or e.fate y 0)) x (entry-below i j h l)
          ∙ ap (λ (b : Bool). cond b (kind_of w) (get_or e.fate x 0)) c,
      table_at (λ y. cond (concerns w y) t (get_or e.told y 0)) x (entry-below i j h l) ∙ ap (λ (b : Bool). cond b t (get_or e.told x 0)) c,
      table_at (λ y. cond (concerns w y) v (get_or e.views y 0)) x (entry-below i j h l) ∙ ap (λ (b : Bool). cond b v (get_or e.views x 0)) c,
    )
