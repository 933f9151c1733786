-- The view in an image, and what an output of no bytes is good for.
use mathlib.Core.Path.{◌≡◌, refl, ap, ◌∙◌, sym}
use mathlib.Core.Bool.{Bool, true, false, cond}
use mathlib.Core.List.{List, [], ◌++◌}
use Prim.Native.Nat.{ℕ, ◌-◌}
use native.Mathlib.Omega.{arith}
use lib.ListN.{length}
use borrow.Author.Tests.{ne_eqb}
use Rattle.words.specs.Word.{word_at, bytes_of}
use Rattle.words.specs.Runs.{runs_of}
use Rattle.words.proofs.ByteLaws.{word_first}
use Rattle.words.specs.Bits.{full}
use Rattle.words.specs.Verdict.{Verdict}
use Rattle.setup.specs.Limits.{fades}
use Rattle.setup.specs.Setup.{head_word, size_in, fades_in, front_of}
use Rattle.setup.specs.declared.Setup.{Setup}
use Rattle.setup.proofs.BoundLaws.{fades-back}
use Rattle.views.specs.Views.{full_views, fresh_views}
use Rattle.image.specs.Layout.{own_at}
use Rattle.image.specs.Words.{view_in}
use Rattle.image.specs.Check.{check_image}
use Rattle.image.proofs.SingleWords.{view-back}
use Rattle.presence.specs.Valid.{Valid}
use Rattle.presence.specs.Opening.{fresh}
use Rattle.presence.specs.Shown.{shown_view}
use Rattle.presence.specs.RoundTrip.{Shaped}
use Rattle.presence.specs.Image.{image_of, state_of, state_length, room_for, room_after}
use Rattle.presence.proofs.RoundTrip.{round_trip}
use Rattle.calls.specs.Calls.{Called, called, refused_call}
use Rattle.calls.specs.declared.Answer.{Answer}
use Rattle.presence.specs.declared.State.{State}
use Rattle.presence.proofs.SmallLaws.{valid-small}
use Rattle.presence.proofs.StateWords.{stands-bytes, image-length as length-of}
use Rattle.page.specs.Calls.{page_called}

-- a refusal of a call with an output of no bytes is one of the call with the output that was lent
pub moved : (out page : List ℕ) (number index : ℕ) {r : Answer} {l : List ℕ} → called r l ≡ refused_call number index []
    → page_called (called r (l ++ out)) page ≡ page_called (refused_call number index out) page
unfolding refused_call
moved out page number index g = ap (λ (c : Called). page_called (called c.answer (c.out ++ out)) page) g

pub refused-by : (number index : ℕ) (out : List ℕ) {c : Called} → c ≡ refused_call number index out → (number ≡ 0 → ⊥) → c.answer.number ≡ 0 → ⊥
unfolding refused_call
refused-by number index out g f z = f (ap (λ (x : Called). x.answer.number) (sym g) ∙ z)

-- ---- the view in an image

module _ (st : State) (v : Valid st) where
  pub image-size : size_in (word_at (image_of st) 0) ≡ st.setup.n
  unfolding image_of runs_of bytes_of
  image-size = ap size_in (word_first (head_word st.setup.q st.setup.partitionable st.setup.n) _) ∙ omega (arith, (valid-small st v).size)

  pub image-form : fades_in (word_at (image_of st)) ≡ fades st.setup.limits
  image-form = fades-back (word_at (image_of st)) st.setup.limits (stands-bytes st).limits

  pub image-view : view_in (word_at (image_of st) (own_at (front_of st.setup) st.setup.n)) ≡ st.counters.view
  image-view =
      let s = valid-small st v in
      ap view_in (stands-bytes st).own ∙ view-back st.own st.counters.view s.own s.view

  pub image-length : length (image_of st) ≡ state_length st st.pending.left
  image-length = length-of st

-- ---- the view that is shown of an image

-- the image of a state within the limits is accepted, and shows what the state shows
pub shown-back : (st : State) {b : List ℕ} → Valid st → Shaped st → b ≡ image_of st → ((check_image b).number ≡ 0) × (shown_view (state_of b) ≡ shown_view st)
shown-back st v a e =
    let (ok, back) = round_trip.written_read st a v in
    (ap (λ (x : List ℕ). (check_image x).number) e ∙ ap (λ (x : Verdict). x.number) ok, ap (λ (x : List ℕ). shown_view (state_of x)) e ∙ ap shown_view back)

-- a fresh module shows all modules
opened-full : (b : Bool) (n : ℕ) → cond b (fresh_views b n).adopted (full n) ≡ full n
unfolding fresh_views full_views
opened-full true n = refl
opened-full false n = refl

pub fresh-shown : (s : Setup) (own : ℕ) → shown_view (fresh s own) ≡ full s.n
unfolding shown_view fresh
fresh-shown s own = opened-full s.partitionable s.n

-- an output of no bytes has no room
none : (st : State) (left : ℕ) → 0 ≡ state_length st left → ⊥
none st left e = omega arith

pub no_room : (st : State) → room_for st [] ≡ false
unfolding room_for
no_room st = ne_eqb 0 (state_length st st.pending.left) (none st st.pending.left)

pub no-room-after : (st : State) → room_after st [] ≡ false
unfolding room_after
no-room-after st = ne_eqb 0 (state_length st (st.pending.left - 1)) (none st (st.pending.left - 1))
