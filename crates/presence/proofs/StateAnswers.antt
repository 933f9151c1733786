-- What is answered, by what the checks inside have answered.
use Rattle.std.specs.Prelude.{Ok, Err}
use mathlib.Core.Path.{◌≡◌, ap, ap₂, ◌∙◌, sym}
use mathlib.Core.Bool.{Bool, true, false}
use mathlib.Core.List.{List}
use Prim.Native.Nat.{ℕ, ◌≤◌}
use native.Mathlib.Omega.{arith}
use lib.ListN.{length}
use lib.Dec.{eqb}
use borrow.Author.Tests.{ne_eqb, eqb-true}
use Rattle.words.proofs.Truth.{cond-true, cond-false}
use Rattle.words.specs.Verdict.{Verdict, accepted, is_accepted, single, outcome}
use Rattle.words.specs.Refusal.{refusal_told}
use Rattle.words.specs.declared.Refusal.{Refusal}
use Rattle.words.proofs.VerdictLaws.{and-then-stops, and-then-goes, single-ok}
use Rattle.setup.specs.Layout.{front_words}
use Rattle.setup.specs.Limits.{fades}
use Rattle.changes.proofs.SectionTests.{new-most}
use Rattle.views.proofs.ViewWords.{views-most}
use Rattle.image.specs.Layout.{image_length}
use Rattle.image.specs.Check.{check_image}
use Rattle.image.proofs.TailLaws.{image-zero}
use Rattle.presence.specs.Valid.{Valid, state_verdict, save_verdict, saved_out}
use Rattle.presence.specs.Opening.{blank, opened_told}
use Rattle.presence.specs.Image.{image_of, state_of, load_of, state_length, room_for}
use Rattle.presence.specs.declared.State.{State}
use Rattle.presence.proofs.StateRoundLaws.{refused-by}

-- ---- what reading answers

module _ (s : List ℕ) where
  pub load-refused : (x : Refusal) → refusal_told x ≡ check_image s → opened_told (Err x) ≡ load_of s
  unfolding load_of
  load-refused x t =
      ap₂ (λ (v : Verdict) (y : State). record { number = v.number; index = v.index; state = y }) t (sym (cond-false (state_of s) blank (refused-by x t)))

  pub load-accepted : {state : State} → state ≡ state_of s → is_accepted (check_image s) ≡ true → opened_told (Ok state) ≡ load_of s
  unfolding load_of
  load-accepted h t =
      let v : accepted ≡ check_image s = sym (image-zero s (eqb-true _ 0 t)) in
      ap₂ (λ (v : Verdict) (y : State). record { number = v.number; index = v.index; state = y }) v (h ∙ sym (cond-true (state_of s) blank t))

-- ---- the length of an image, as it is found from the limits

pub length-by : {b : Bool} {front k : ℕ} (st : State) → b ≡ fades st.setup.limits → front ≡ front_words b
    → k ≡ image_length front st.setup.n st.pending.left st.setup.partitionable
    → k ≡ state_length st st.pending.left
length-by st f e l = l ∙ ap (λ (x : ℕ). image_length x st.setup.n st.pending.left st.setup.partitionable) (e ∙ ap front_words f)

-- no image is longer than 512 bytes
pub length_most : (st : State) → st.setup.n ≤ 16 → state_length st st.pending.left ≤ 512
length_most st l = go (fades st.setup.limits)
  where
    go : (b : Bool) → image_length (front_words b) st.setup.n st.pending.left st.setup.partitionable ≤ 512
    go true = omega (arith, new-most st.setup.n st.pending.left, views-most st.setup.partitionable st.setup.n)
    go false = omega (arith, new-most st.setup.n st.pending.left, views-most st.setup.partitionable st.setup.n)

-- ---- v is the answer for the struct

pub verdict-valid : {v : Verdict} (st : State) → v ≡ state_verdict st → v.number ≡ 0 → Valid st
verdict-valid st e z = ap (λ (x : Verdict). x.number) (sym e) ∙ z

module _ {v : Verdict} (st : State) (out : List ℕ) (e : v ≡ state_verdict st) where
  stays : {r : Verdict} → r ≡ save_verdict st out → (r.number ≡ 0 → ⊥) → out ≡ saved_out st out
  unfolding saved_out
  stays {r} h f = sym (cond-false (image_of st) out (ap is_accepted (sym h) ∙ ne_eqb r.number 0 f))

  pub save-refused : (v.number ≡ 0 → ⊥) → (v ≡ save_verdict st out) × (out ≡ saved_out st out)
  unfolding save_verdict
  save-refused f =
      let h : v ≡ save_verdict st out = and-then-stops _ e f in
      (h, stays h f)

  -- r is the answer of 9
  pub save-short : {r : Verdict} → r ≡ outcome (single (room_for st out) 9 0) → v.number ≡ 0 → (r.number ≡ 0 → ⊥)
      → (r ≡ save_verdict st out) × (out ≡ saved_out st out)
  unfolding save_verdict
  save-short {r} q z f =
      let h : r ≡ save_verdict st out = and-then-goes _ e z q in
      (h, stays h f)

  pub save-done : {o : List ℕ} → o ≡ image_of st → v.number ≡ 0 → room_for st out ≡ true → (accepted ≡ save_verdict st out) × (o ≡ saved_out st out)
  unfolding save_verdict saved_out
  save-done {o} b z t =
      let h : accepted ≡ save_verdict st out = and-then-goes _ e z (sym (single-ok (room_for st out) 9 0 t)) in
      (h, b ∙ sym (cond-true (image_of st) out (ap is_accepted (sym h))))

-- the length of an output, by the length that the code finds
pub room-by : {k : ℕ} (st : State) (out : List ℕ) → k ≡ state_length st st.pending.left → eqb (length out) k ≡ room_for st out
unfolding room_for
room-by st out e = ap (eqb (length out)) e

pub room-length : (st : State) (out : List ℕ) → room_for st out ≡ true → length out ≡ state_length st st.pending.left
unfolding room_for
room-length st out t = eqb-true _ _ t
