-- What a change from C answers and leaves in its output, by the test that decides it.
use mathlib.Core.Path.{◌≡◌, refl, ap, ap₂, ◌∙◌, sym}
use mathlib.Core.Bool.{Bool, true, false, ◌&&◌}
use mathlib.Core.List.{List}
use Prim.Native.Nat.{ℕ, ◌+◌, ◌*◌, ◌<◌, ◌≤◌}
use native.Mathlib.Omega.{arith}
use lib.ListN.{length}
use lib.Dec.{eqb}
use borrow.Author.Tests.{eq-eqb, ne_eqb, eqb-true}
use Rattle.words.specs.Word.{word_at}
use Rattle.words.specs.Verdict.{verdict, accepted, is_accepted, between}
use Rattle.words.specs.Verdict.{Verdict}
use Rattle.words.proofs.Truth.{cond-true, cond-false, and_l, and_r}
use Rattle.words.proofs.VerdictLaws.{between_is}
use Rattle.setup.specs.Setup.{size_in, partitionable_in, fades_in, setup_of}
use Rattle.setup.specs.Layout.{front_words}
use Rattle.setup.specs.Check.{check_setup}
use Rattle.changes.specs.Pending.{most_lead, pending_of}
use Rattle.changes.specs.Frame.{same_frame}
use Rattle.image.specs.Layout.{left_at, image_length}
use Rattle.image.specs.Check.{left_in, check_image}
use Rattle.presence.specs.Change.{with_pending}
use Rattle.presence.specs.Image.{image_of, state_of}
use Rattle.calls.specs.Calls.{answer, called, refused_call, wrote, change_call}
use Rattle.calls.specs.Refusals.{has_room, changing_verdict, answering}
use Rattle.calls.specs.declared.Answer.{Answer}
use Rattle.calls.proofs.Refusals.{changing-verdict, changing}
use Rattle.calls.proofs.FrameWordLaws.{held, forms}

-- the words of a setup that counts
counting : {k n : ℕ} (s : List ℕ) → fades_in (word_at s) ≡ false → n ≡ size_in (word_at s 0) → k ≡ word_at s (left_at 3 n) → k ≡ left_in s
counting s f e h = h ∙ ap (λ (m : ℕ). word_at s (left_at 3 m)) e ∙ ap (λ (b : Bool). word_at s (left_at (front_words b) (size_in (word_at s 0)))) (sym f)

pub left_word : {at left : ℕ} (s : List ℕ) (n : ℕ) → at ≡ left_at 3 n → left ≡ word_at s at → left ≡ word_at s (left_at 3 n)
left_word s n e h = h ∙ ap (word_at s) e

pub setup-of : {w : Verdict} (x : List ℕ) → w ≡ check_setup x → w.number ≡ 0 → (check_setup x).number ≡ 0
setup-of x e z = ap (λ (v : Verdict). v.number) (sym e) ∙ z

pub size_of : {n : ℕ} (s : List ℕ) → n ≡ size_in (word_at s 0) → n ≡ (state_of s).setup.n
unfolding state_of setup_of
size_of s e = e

module _ (image new : List ℕ) (lead : ℕ) (out : List ℕ) where
  -- by the verdict
  refused-by : {v : Verdict} {r : Answer} → changing_verdict image new lead out ≡ v → is_accepted v ≡ false → r ≡ answer v.number v.index 0
      → called r out ≡ change_call image new lead out
  unfolding answering refused_call
  refused-by {v} e f q =
      ap (λ (x : Answer). called x out) q
      ∙ sym (changing image new lead out ∙ ap (λ (w : Verdict). answering w 0 (with_pending (state_of image) (pending_of (setup_of new) lead)) out) e ∙ cond-false _ _ f)

  taken-by : {r : Answer} {b : List ℕ} → changing_verdict image new lead out ≡ accepted → r ≡ answer 0 0 0
      → b ≡ image_of (with_pending (state_of image) (pending_of (setup_of new) lead)) → called r b ≡ change_call image new lead out
  unfolding answering wrote
  taken-by e q w =
      (λ i. called (q i) (w i))
      ∙ sym (changing image new lead out ∙ ap (λ (w : Verdict). answering w 0 (with_pending (state_of image) (pending_of (setup_of new) lead)) out) e)

  module _ {v : Verdict} (ev : v ≡ check_image image) where
    pub change-bad-image : {r : Answer} → (v.number ≡ 0 → ⊥) → r ≡ answer v.number v.index 0 → called r out ≡ change_call image new lead out
    change-bad-image f q =
        let no : is_accepted (check_image image) ≡ false = ap is_accepted (sym ev) ∙ ne_eqb v.number 0 f in
        refused-by {v = v} (changing-verdict image new lead out ∙ cond-false _ _ no ∙ sym ev) (ne_eqb v.number 0 f) q

    module _ (z : v.number ≡ 0) {w : Verdict} (ew : w ≡ check_setup new) where
      pub image-is : (check_image image).number ≡ 0
      image-is = ap (λ (x : Verdict). x.number) (sym ev) ∙ z

      image-ok : is_accepted (check_image image) ≡ true
      image-ok = eq-eqb _ 0 image-is

      pub change-bad-setup : {r : Answer} → (w.number ≡ 0 → ⊥) → r ≡ answer w.number w.index 0 → called r out ≡ change_call image new lead out
      change-bad-setup f q =
          let no : is_accepted (check_setup new) ≡ false = ap is_accepted (sym ew) ∙ ne_eqb w.number 0 f in
          refused-by {v = w} (changing-verdict image new lead out ∙ cond-true _ _ image-ok ∙ cond-false _ _ no ∙ sym ew) (ne_eqb w.number 0 f) q

      module _ (u : w.number ≡ 0) {same : Bool} (es : same ≡ same_frame (setup_of image) (setup_of new)) where
        pub setup-is : (check_setup new).number ≡ 0
        setup-is = ap (λ (x : Verdict). x.number) (sym ew) ∙ u

        setup-ok : is_accepted (check_setup new) ≡ true
        setup-ok = eq-eqb _ 0 setup-is

        pub change-other-frame : {r : Answer} → same ≡ false → r ≡ answer 23 0 0 → called r out ≡ change_call image new lead out
        change-other-frame f q =
            refused-by {v = verdict 23 0}
            (changing-verdict image new lead out ∙ cond-true _ _ image-ok ∙ cond-true _ _ setup-ok ∙ cond-false _ _ (sym es ∙ f)) refl q

        pub left-room : {n at : ℕ} → same ≡ true → n ≡ size_in (word_at image 0) → at ≡ left_at 3 n → at * 4 + 4 ≤ length image
        left-room fs en ea =
            let f : front_words (fades_in (word_at image)) ≡ 3 = ap front_words (forms image new image-is setup-is (sym es ∙ fs)).0 in
            omega (arith, ea, en, f, (held image new image-is setup-is).size)

        module _ (fs : same ≡ true) {n left : ℕ} (en : n ≡ size_in (word_at image 0)) (el : left ≡ word_at image (left_at 3 n)) where
          pub same-is : same_frame (setup_of image) (setup_of new) ≡ true
          same-is = sym es ∙ fs

          left_is : left ≡ left_in image
          left_is = counting image (forms image new image-is setup-is same-is).0 en el

          -- nothing is pending, and the lead is in range
          abbrev follows : Bool
          follows = eqb left 0 && between 1 most_lead lead

          follows-is : eqb (left_in image) 0 && between 1 most_lead lead ≡ follows
          follows-is = ap (λ (k : ℕ). eqb k 0 && between 1 most_lead lead) (sym left_is)

          pub some-rounds : follows ≡ true → 0 < lead
          some-rounds t = let l = (between_is 1 most_lead lead (and_r (eqb left 0) _ t)).0 in omega arith

          pub none-pending : follows ≡ true → word_at image (left_at 3 n) ≡ 0
          none-pending t = sym el ∙ eqb-true left 0 (and_l (eqb left 0) _ t)

          pub change-no-lead : {r : Answer} → follows ≡ false → r ≡ answer 24 0 0 → called r out ≡ change_call image new lead out
          change-no-lead f q =
              refused-by {v = verdict 24 0}
              (changing-verdict image new lead out ∙ cond-true _ _ image-ok ∙ cond-true _ _ setup-ok ∙ cond-true _ _ same-is ∙ cond-false _ _ (follows-is ∙ f)) refl q

          module _ (ff : follows ≡ true) {long : ℕ} {t : Bool} (parted : t ≡ partitionable_in (word_at image 0)) (eg : long ≡ image_length 3 n lead t) where
            -- how long it is, by the head
            pub change-long : eqb (length out) long ≡ true → length out ≡ image_length 3 n lead (partitionable_in (word_at image 0))
            change-long e = eqb-true (length out) long e ∙ eg ∙ ap (image_length 3 n lead) parted

            room-is : has_room image lead out ≡ eqb (length out) long
            room-is =
                ap (eqb (length out))
                (ap (λ (b : Bool). image_length (front_words b) (size_in (word_at image 0)) lead (partitionable_in (word_at image 0))) (forms image new image-is setup-is same-is).0
                ∙ ap₂ (λ (m : ℕ) (d : Bool). image_length 3 m lead d) (sym en) (sym parted) ∙ sym eg)

            pub change-no-room : {r : Answer} → eqb (length out) long ≡ false → r ≡ answer 9 0 0 → called r out ≡ change_call image new lead out
            change-no-room f q =
                refused-by {v = verdict 9 0}
                (changing-verdict image new lead out ∙ cond-true _ _ image-ok ∙ cond-true _ _ setup-ok ∙ cond-true _ _ same-is ∙ cond-true _ _ (follows-is ∙ ff)
                ∙ cond-false _ _ (room-is ∙ f)) refl q

            pub change-done : {r : Answer} {b : List ℕ} → eqb (length out) long ≡ true → r ≡ answer 0 0 0
                → b ≡ image_of (with_pending (state_of image) (pending_of (setup_of new) lead)) → called r b ≡ change_call image new lead out
            change-done e q w =
                taken-by
                (changing-verdict image new lead out ∙ cond-true _ _ image-ok ∙ cond-true _ _ setup-ok ∙ cond-true _ _ same-is ∙ cond-true _ _ (follows-is ∙ ff)
                ∙ cond-true _ _ (room-is ∙ e)) q w
