-- An opening from setup to image: what is written is the image of the fresh module.
use mathlib.Core.Path.{◌≡◌, refl, ap, ap₂, ◌∙◌, sym}
use mathlib.Core.Bool.{Bool, true, false, cond, ◌||◌}
use mathlib.Core.List.{List, [], ◌∷◌, ◌++◌}
use Prim.Native.Nat.{ℕ, ◌+◌, ◌*◌, ◌^◌, ◌<◌, ◌≤◌}
use native.Mathlib.Omega.{arith}
use lib.Pow.{pow_mono}
use lib.Dec.{eqb}
use lib.ListN.{get_or, length, drop, replicate, get_or-replicate}
use borrow.Author.Tests.{eq-eqb}
use Rattle.words.specs.Word.{word_at, put_word, bytes_of}
use Rattle.words.specs.Bits.{full}
use Rattle.words.specs.Array.{array}
use Rattle.words.specs.Runs.{one, put_run, put_runs}
use Rattle.words.specs.Verdict.{verdict, accepted, is_accepted, between}
use Rattle.words.specs.Verdict.{Verdict}
use Rattle.words.proofs.Truth.{cond-true, cond-false}
use Rattle.words.proofs.BitLaws.{full-lt}
use Rattle.words.proofs.ArrayLaws.{array_at, array-ext, array-own, clear_of}
use Rattle.words.proofs.RunLaws.{put-run}
use lib.Ieee.{of_int, to_bits}
use Rattle.doubles.specs.Double.{double, high_word, low_word}
use Rattle.doubles.proofs.DoubleArrayLaws.{zeros-at}
use Rattle.setup.specs.Layout.{front_words, setup_words, setup_length}
use Rattle.setup.specs.Limits.{fades}
use Rattle.setup.specs.Setup.{size_in, partitionable_in, fades_in, front_in, front_of, setup_of, setup_bytes}
use Rattle.setup.specs.Check.{check_setup}
use Rattle.setup.specs.declared.Setup.{Setup}
use Rattle.setup.proofs.BoundLaws.{read-fades}
use Rattle.setup.proofs.SetupCheckLaws.{BytesFit, setup-pass}
use Rattle.setup.proofs.FrontLaws.{setup-written}
use Rattle.changes.specs.Pending.{nothing}
use Rattle.changes.specs.Words.{change_runs}
use Rattle.views.specs.Views.{full_views, fresh_views}
use Rattle.views.specs.Section.{view_runs}
use Rattle.image.specs.Layout.{own_at, left_at, views_at, image_length}
use Rattle.image.specs.Words.{own_word, syndrome_word}
use Rattle.image.specs.Rows.{row_run}
use Rattle.image.specs.Part.{first_of, second_of, CountersSmall, lent_runs}
use Rattle.presence.specs.Opening.{fresh}
use Rattle.presence.specs.Image.{state_runs, image_of}
use Rattle.presence.specs.declared.State.{State}
use Rattle.presence.proofs.StateWords.{views_of}
use Rattle.presence.proofs.SaveLaws.{lent-state, image-written}
use Rattle.calls.specs.Calls.{answer, called, wrote, refused_call, open_call}
use Rattle.calls.specs.Refusals.{size_of, has_room, open_verdict, answering}
use Rattle.calls.specs.declared.Answer.{Answer}
use Rattle.calls.proofs.ModuleCallLaws.{from_first, read-front}
use Rattle.calls.proofs.Refusals.{open-verdict, refusals}

-- ---- accounts of a fresh module, lent as zeros

no-entries : (n : ℕ) (f : ℕ → ℕ) → n ≤ 16 → ((j : ℕ) → j < n → f j ≡ 0) → replicate 16 0 ≡ array n f
no-entries n f few e =
    sym (array-own n (replicate 16 0) few refl (clear_of n (replicate 16 0) (λ i h l. get_or-replicate {A = ℕ} 16 i 0 0 l)))
    ∙ array-ext n _ f (λ j h. get_or-replicate {A = ℕ} 16 j 0 0 (omega arith) ∙ sym (e j h))

high_zero : high_word (double 0) ≡ 0
unfolding high_word double of_int to_bits
high_zero = refl

low-zero : low_word (double 0) ≡ 0
unfolding low_word double of_int to_bits
low-zero = refl

module _ (s : Setup) (own : ℕ) (few : s.n ≤ 16) where
  first-zeros : (b : Bool) → replicate 16 0 ≡ first_of b s.n (fresh s own).counters
  unfolding fresh
  first-zeros true = no-entries s.n _ few (λ j h. ap high_word (zeros-at j (omega arith)) ∙ high_zero)
  first-zeros false = refl

  second-zeros : (b : Bool) → replicate 16 0 ≡ second_of b s.n (fresh s own).counters
  unfolding fresh
  second-zeros true = no-entries s.n _ few (λ j h. ap low_word (zeros-at j (omega arith)) ∙ low-zero)
  second-zeros false = refl

zero-at : (j : ℕ) → j < 16 → get_or (replicate 16 0) j 0 < 2 ^ 23
zero-at j h = let e = get_or-replicate {A = ℕ} 16 j 0 0 h in omega arith

-- what writing them asks
pub zeros-small : (b : Bool) (n : ℕ) → n ≤ 16 → CountersSmall b n (replicate 16 0) (replicate 16 0) (replicate 16 0)
zeros-small true n few = λ j h. zero-at j (omega arith)
zeros-small false n few = (λ j h. zero-at j (omega arith), λ j h. zero-at j (omega arith), λ j h. zero-at j (omega arith))

-- vectors of n modules have room in their words
pub full-small : {v : ℕ} (n : ℕ) → n ≤ 16 → v ≡ full n → v < 2 ^ 16
full-small n few e = let f = full-lt n in let p = pow_mono {i = n} {j = 16} few in omega arith

pub rows-small : {v : ℕ} {rows : List ℕ} (n : ℕ) → n ≤ 16 → v ≡ full n → rows ≡ array n (λ j. v) → (j : ℕ) → j < n → get_or rows j 0 < 2 ^ 16
rows-small {v} n few e er j h = let a = ap (λ (x : List ℕ). get_or x j 0) er ∙ array_at n (λ _. v) j h few in let s = full-small n few e in omega arith

-- ---- an accepted setup

module _ (s : List ℕ) (ok : (check_setup s).number ≡ 0) where
  pub fits : BytesFit s
  fits = setup-pass s ok

  accepts : is_accepted (check_setup s) ≡ true
  accepts = eq-eqb (check_setup s).number 0 ok

  module _ (own : ℕ) (out : List ℕ) where
    answered : (v : Verdict) → open_verdict s own out ≡ v → answering v 0 (fresh (setup_of s) own) out ≡ open_call s own out
    answered v e = ap (λ (x : Verdict). answering x 0 (fresh (setup_of s) own) out) (sym e) ∙ sym (refusals.opening s own out)

    pub open-seven : {n : ℕ} {r : Answer} → n ≡ size_in (word_at s 0) → between 1 n own ≡ false → r ≡ answer 7 0 0 → called r out ≡ open_call s own out
    unfolding answering refused_call
    open-seven {n} en f q =
        let b : between 1 (size_of s) own ≡ false = ap (λ (m : ℕ). between 1 m own) (sym en) ∙ f in
        ap (λ (x : Answer). called x out) q
        ∙ answered (verdict 7 0) (open-verdict s own out ∙ cond-true _ _ accepts ∙ cond-false _ _ b)

    module _ {n : ℕ} (en : n ≡ size_in (word_at s 0)) (inside : between 1 n own ≡ true) where
      range : between 1 (size_of s) own ≡ true
      range = ap (λ (m : ℕ). between 1 m own) (sym en) ∙ inside

      by-room : open_verdict s own out ≡ cond (has_room s 0 out) accepted (verdict 9 0)
      by-room = open-verdict s own out ∙ cond-true _ _ accepts ∙ cond-true _ _ range

      module _ {b t : Bool} {front : ℕ} (eb : b ≡ fades_in (word_at s)) (ef : front ≡ front_words b) (et : t ≡ partitionable_in (word_at s 0)) where
        length-is : image_length front n 0 t ≡ image_length (front_in (word_at s)) (size_in (word_at s 0)) 0 (partitionable_in (word_at s 0))
        length-is = (λ i. image_length ((ef ∙ ap front_words eb) i) (en i) 0 (et i))

        pub open-nine : {long : ℕ} {r : Answer} → long ≡ image_length front n 0 t → eqb (length out) long ≡ false → r ≡ answer 9 0 0 → called r out ≡ open_call s own out
        unfolding answering refused_call
        open-nine e f q =
            ap (λ (x : Answer). called x out) q
            ∙ answered (verdict 9 0) (by-room ∙ cond-false _ _ (ap (eqb (length out)) (sym (e ∙ length-is)) ∙ f))

        -- ---- what is written

        abbrev st : State
        st = fresh (setup_of s) own

        few : (setup_of s).n ≤ 16
        unfolding setup_of
        few = fits.front.most

        size_is : n ≡ (setup_of s).n
        unfolding setup_of
        size_is = en

        form-is : b ≡ fades (setup_of s).limits
        unfolding setup_of
        form-is = eb ∙ sym (read-fades (fades_in (word_at s)) (word_at s))

        front-is : front ≡ front_of (setup_of s)
        front-is = ef ∙ ap front_words form-is

        parted-is : t ≡ (setup_of s).partitionable
        unfolding setup_of
        parted-is = et

        bytes-are : ((i : ℕ) → get_or s i 0 < 256) → setup_bytes (setup_of s) ≡ bytes_of (setup_words (front_of (setup_of s)) (setup_of s).n) (word_at s)
        bytes-are small =
            setup-written s fits.front fits.words (omega (arith, fits.size)) small
            ∙ ap₂ (λ (k m : ℕ). bytes_of (setup_words k m) (word_at s)) (sym (read-front s)) (sym en ∙ size_is)

        -- nothing is pending: the rounds left are 0
        none_left : (o : List ℕ) → put_runs o (left_at (front_words b) (setup_of s).n) (change_runs (setup_of s) nothing) ≡ put_word o (left_at (front_words b) (setup_of s).n) 0
        unfolding nothing put_runs put_run
        none_left o =
            let e : left_at (front_words b) (setup_of s).n + 0 ≡ left_at (front_words b) (setup_of s).n = omega arith in
            ap (λ (i : ℕ). put_word o i 0) e

        -- the views of a fresh module, and that there are none without head bit 5
        pub full_put : {v k : ℕ} {o₄ : List ℕ} (o₃ : List ℕ) → t ≡ true → v ≡ full n → k ≡ views_at front n 0 → o₄ ≡ put_runs o₃ k (view_runs true n v (full_views n))
            → o₄ ≡ put_runs o₃ (views_at front n 0) (views_of st)
        unfolding fresh fresh_views setup_of
        full_put o₃ e ev ek h =
            h ∙ (λ i. put_runs o₃ (ek i) (view_runs true n (ev i) (full_views n)))
            ∙ ap₂ (λ (m : ℕ) (d : Bool). put_runs o₃ (views_at front n 0) (view_runs d m (full m) (fresh_views d m))) en (sym e ∙ et)

        pub none-put : (o₃ : List ℕ) → t ≡ false → o₃ ≡ put_runs o₃ (views_at front n 0) (views_of st)
        unfolding fresh fresh_views setup_of put_runs
        none-put o₃ e =
            ap (λ (d : Bool). put_runs o₃ (views_at front n 0) (view_runs d (size_in (word_at s 0)) (full (size_in (word_at s 0))) (fresh_views d (size_in (word_at s 0))))) (sym e ∙ et)

        sections : {v i : ℕ} {rows o₂ o₃ o₄ : List ℕ} (o₁ : List ℕ)
            → o₂ ≡ put_runs o₁ (own_at (front_words b) n) (one (own_word own v) ∷ row_run n (record { heard = v; rows = rows }) ∷ one (syndrome_word v) ∷ one (syndrome_word v)
            ∷ lent_runs b n (replicate 16 0) (replicate 16 0) (replicate 16 0))
            → i ≡ left_at front n → o₃ ≡ put_word o₂ i 0 → o₄ ≡ put_runs o₃ (views_at front n 0) (views_of st)
            → v ≡ full n → rows ≡ array n (λ j. v) → o₄ ≡ put_runs o₁ (own_at (front_of (setup_of s)) (setup_of s).n) (state_runs st)
        unfolding fresh nothing
        sections o₁ e ei e₃ e₄ ev er =
            e₄ ∙ rw (e₃, ei, e, er, ev, ef, size_is)
            (ap (λ (q : List ℕ). put_runs q (views_at (front_words b) (setup_of s).n 0) (views_of st)) (sym (none_left _)) ∙ lent-state st form-is (first-zeros (setup_of s) own few b) (second-zeros (setup_of s) own few b) few o₁)

        pub open_made : {r : Answer} {v k i : ℕ} {rows o₁ o₂ o₃ o₄ : List ℕ} → ((i : ℕ) → get_or s i 0 < 256) → length out ≡ image_length front n 0 t → v ≡ full n
            → rows ≡ array n (λ j. v) → k ≡ setup_words front n → o₁ ≡ put_run out 0 k (λ j. word_at s (0 + j))
            → o₂ ≡ put_runs o₁ (own_at (front_words b) n) (one (own_word own v) ∷ row_run n (record { heard = v; rows = rows }) ∷ one (syndrome_word v) ∷ one (syndrome_word v)
            ∷ lent_runs b n (replicate 16 0) (replicate 16 0) (replicate 16 0))
            → i ≡ left_at front n → o₃ ≡ put_word o₂ i 0 → o₄ ≡ put_runs o₃ (views_at front n 0) (views_of st) → r ≡ answer 0 0 0 → called r o₄ ≡ open_call s own out
        unfolding answering wrote fresh nothing
        open_made {v = v} {k = k} {rows = rows} {o₁ = o₁} {o₄ = o₄} small long ev er ek e₁ e₂ ei e₃ e₄ q =
            let m = setup_words (front_of (setup_of s)) (setup_of s).n in
            let words : k ≡ m = ek ∙ ap₂ setup_words front-is size_is in
            let room : length out ≡ image_length (front_of (setup_of s)) (setup_of s).n 0 (setup_of s).partitionable = long ∙ (λ i. image_length (front-is i) (size_is i) 0 (parted-is i)) in
            let put : put_run out 0 m (word_at s) ≡ bytes_of m (word_at s) ++ drop (m * 4) out = put-run [] out 0 m (word_at s) refl (omega arith) in
            let copied : o₁ ≡ setup_bytes (setup_of s) ++ drop (setup_length (front_of (setup_of s)) (setup_of s).n) out =
            from_first out s k e₁ ∙ ap (λ (i : ℕ). put_run out 0 i (word_at s)) words ∙ put ∙ ap (λ (x : List ℕ). x ++ drop (m * 4) out) (sym (bytes-are small))
            in
            let written : o₄ ≡ put_runs o₁ (own_at (front_of (setup_of s)) (setup_of s).n) (state_runs st) = sections o₁ e₂ ei e₃ e₄ ev er in
            let image : o₄ ≡ image_of st =
            image-written st out (setup_length (front_of (setup_of s)) (setup_of s).n) refl refl
            (written ∙ ap (λ (x : List ℕ). put_runs x (own_at (front_of (setup_of s)) (setup_of s).n) (state_runs st)) copied) room
            in
            ap₂ called q image ∙ answered accepted (by-room ∙ cond-true _ _ (eq-eqb (length out) _ (long ∙ length-is)))
