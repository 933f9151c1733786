-- Two setups in words: whether all but P, R and the criticalities is the same, by their heads and by what stands above the criticalities.
use Rattle.std.specs.Bool.{MatchBool}
use Rattle.std.specs.List.{AllWithin, HoldsAt, range_with_len}
use Rattle.std.proofs.lemmas.List.FromFn.{length-range_with_len, get_or-range_with_len}
use mathlib.Core.Path.{◌≡◌, refl, ap, ◌∙◌, sym, subst}
use mathlib.Core.Bool.{Bool, true, false, ◌||◌, true≢false}
use mathlib.Core.Logic.{⊎_elim}
use mathlib.Core.List.{List}
use Prim.Native.Nat.{ℕ, ◌+◌, ◌*◌, ◌/◌, ◌^◌, ◌<◌, ◌≤◌}
use native.Mathlib.Omega.{arith}
use lib.ListN.{get_or, length}
use lib.Dec.{eqb}
use borrow.Author.Tests.{eqb-true, eq-eqb}
use Rattle.words.specs.Word.{word_at, number_unit}
use Rattle.words.specs.Bits.{bit, pack}
use Rattle.words.specs.Count.{all}
use Rattle.words.proofs.Truth.{clash, which, iff-eq, or_cases, or-false-l, or-false-r}
use Rattle.words.proofs.BitLaws.{bit-pack, pack-ext}
use Rattle.words.proofs.ArrayLaws.{array_at}
use Rattle.words.proofs.CountLaws.{all-at, all-intro}
use Rattle.setup.specs.Layout.{front_words}
use Rattle.setup.specs.Setup.{head_word, return_limit_in, partitionable_in, size_in, place_unit, mark_in, place_in, criticality_in, fades_in, front_in, setup_of}
use Rattle.setup.specs.Check.{check_setup}
use Rattle.setup.specs.declared.Setup.{Setup}
use Rattle.setup.proofs.WordFields.{head-made}
use Rattle.setup.proofs.BoundLaws.{read-fades}
use Rattle.setup.proofs.SetupCheckLaws.{WordsFit, BytesFit, setup-pass}
use Rattle.changes.specs.Frame.{same_frame}
use Rattle.changes.proofs.NewMeaning.{upper-place, upper-mark, upper-same, number_is}
use Rattle.changes.proofs.PendingLaws.{frame_same, same-frame}
use Rattle.image.specs.Check.{check_image}
use Rattle.image.proofs.TailLaws.{ImageFits, image-pass}

-- what `all` answers over the numbers below n
pub all-told : (n : ℕ) (p : ℕ → Bool) (r : Bool)
    → MatchBool r (AllWithin (λ i. p i ≡ true) (range_with_len 0 n) 0 (length (range_with_len 0 n)))
    ((k : ℕ) × (k < length (range_with_len 0 n)) × HoldsAt (λ i. p i ≡ false) (range_with_len 0 n) k) → r ≡ all n p
all-told n p true h =
    sym (all-intro n p (λ k l.
    let e : k < length (range_with_len 0 n) = omega (arith, length-range_with_len 0 n) in
    subst (λ i. p i ≡ true) (get_or-range_with_len 0 n k 0 l ∙ omega arith) (h k 0 (omega arith) e)))
all-told n p false (k, l, f) =
    let e : k < n = omega (arith, length-range_with_len 0 n) in
    let g : p k ≡ false = subst (λ i. p i ≡ false) (get_or-range_with_len 0 n k 0 e ∙ omega arith) (f 0) in
    ⊎_elim (λ (t : all n p ≡ true). clash (p k) (all-at n p t k e) g) (λ (t : all n p ≡ false). sym t) (which (all n p))

refuted : (b : Bool) → (b ≡ true → ⊥) → false ≡ b
refuted true f = absurd (f refl)
refuted false f = refl

-- ---- the fields of a module in the words y of a setup that counts

module _ (y : List ℕ) (few : size_in (word_at y 0) ≤ 16) (counts : fades_in (word_at y) ≡ false) where
  pub place_of : (j : ℕ) → j < size_in (word_at y 0) → get_or (setup_of y).places j 0 ≡ place_in (word_at y (3 + j))
  unfolding setup_of
  place_of j h =
      array_at (size_in (word_at y 0)) (λ i. place_in (word_at y (front_in (word_at y) + i))) j h few
      ∙ ap (λ (b : Bool). place_in (word_at y (front_words b + j))) counts

  pub mark_of : (j : ℕ) → j < size_in (word_at y 0) → bit (setup_of y).marks j ≡ mark_in (word_at y (3 + j))
  unfolding setup_of
  mark_of j h =
      bit-pack (size_in (word_at y 0)) (λ i. mark_in (word_at y (front_in (word_at y) + i))) j h
      ∙ ap (λ (b : Bool). mark_in (word_at y (front_words b + j))) counts

  pub criticality-of : (j : ℕ) → j < size_in (word_at y 0) → get_or (setup_of y).criticality j 0 ≡ criticality_in (word_at y (3 + j))
  unfolding setup_of
  criticality-of j h =
      array_at (size_in (word_at y 0)) (λ i. criticality_in (word_at y (front_in (word_at y) + i))) j h few
      ∙ ap (λ (b : Bool). criticality_in (word_at y (front_words b + j))) counts

  pub number_of : WordsFit y (size_in (word_at y 0)) → (j : ℕ) → j < size_in (word_at y 0) → word_at y (3 + j) / number_unit ≡ 4 * 2 ^ 5 + (j + 1)
  number_of f j h =
      ap (λ (b : Bool). word_at y (front_words b + j) / number_unit) (sym counts) ∙ number_is (size_in (word_at y 0)) j (word_at y (front_in (word_at y) + j)) (f.each j h)

-- ---- an accepted image s and an accepted setup x

module _ (s x : List ℕ) (ok : (check_image s).number ≡ 0) (good : (check_setup x).number ≡ 0) where
  abbrev old : Setup
  old = setup_of s

  abbrev new : Setup
  new = setup_of x

  pub held : ImageFits s
  held = image-pass s ok

  pub asked : BytesFit x
  asked = setup-pass x good

  pub forms : same_frame old new ≡ true → (fades_in (word_at s) ≡ false) × (fades_in (word_at x) ≡ false)
  unfolding setup_of
  forms t =
      let f = frame_same old new t in
      (sym (read-fades (fades_in (word_at s)) (word_at s)) ∙ f.counts, sym (read-fades (fades_in (word_at x)) (word_at x)) ∙ f.counts-new)

  pub frame-fades : {a b : Bool} → a ≡ fades_in (word_at s) → b ≡ fades_in (word_at x) → a || b ≡ true → false ≡ same_frame old new
  frame-fades {a} {b} ea eb t =
      refuted (same_frame old new) (λ e.
      let (p, q) = forms e in
      ⊎_elim (λ (u : a ≡ true). true≢false (sym u ∙ ea ∙ p)) (λ (u : b ≡ true). true≢false (sym u ∙ eb ∙ q)) (or_cases a b t))

  pub frame-heads : {u v : ℕ} → u ≡ word_at s 0 → v ≡ word_at x 0 → (u ≡ v → ⊥) → false ≡ same_frame old new
  unfolding setup_of
  frame-heads eu ev f =
      refuted (same_frame old new) (λ e.
      let h = frame_same old new e in
      f (eu ∙ sym (head-made (word_at s 0) held.front.head).1 ∙ (λ i. head_word (h.q i) (h.partitionable i) (h.size i))
      ∙ (head-made (word_at x 0) asked.front.head).1 ∙ sym ev))

  -- neither fades, and the heads are the same
  module _ (fs : fades_in (word_at s) ≡ false) (fx : fades_in (word_at x) ≡ false) (head : word_at s 0 ≡ word_at x 0) where
    abbrev n : ℕ
    n = size_in (word_at s 0)

    size : n ≡ size_in (word_at x 0)
    size = ap size_in head

    few : size_in (word_at x 0) ≤ 16
    few = asked.front.most

    in-new : (j : ℕ) → j < n → j < size_in (word_at x 0)
    in-new j h = omega (arith, size)

    abbrev upper : ℕ → Bool
    upper j = eqb (word_at s (3 + j) / place_unit) (word_at x (3 + j) / place_unit)

    marks-same : ((j : ℕ) → j < n → word_at s (3 + j) / place_unit ≡ word_at x (3 + j) / place_unit) → old.marks ≡ new.marks
    unfolding setup_of
    marks-same f =
        pack-ext n (λ j. mark_in (word_at s (front_in (word_at s) + j))) (λ j. mark_in (word_at x (front_in (word_at x) + j)))
        (λ j h. ap (λ (b : Bool). mark_in (word_at s (front_words b + j))) fs ∙ upper-mark (word_at x (3 + j)) (word_at s (3 + j)) (f j h)
        ∙ ap (λ (b : Bool). mark_in (word_at x (front_words b + j))) (sym fx))
        ∙ ap (λ (m : ℕ). pack m (λ j. mark_in (word_at x (front_in (word_at x) + j)))) size

    same_then : all n upper ≡ true → same_frame old new ≡ true
    unfolding setup_of
    same_then t =
        let f : (j : ℕ) → j < n → word_at s (3 + j) / place_unit ≡ word_at x (3 + j) / place_unit = λ j h. eqb-true _ _ (all-at n upper t j h) in
        same-frame old new (record {
          counts = read-fades (fades_in (word_at s)) (word_at s) ∙ fs;
          counts-new = read-fades (fades_in (word_at x)) (word_at x) ∙ fx;
          size = size;
          q = ap return_limit_in head;
          partitionable = ap partitionable_in head;
          marks = marks-same f;
          places = λ j h.
              place_of s held.front.most fs j h ∙ upper-place (word_at x (3 + j)) (word_at s (3 + j)) (f j h) ∙ sym (place_of x few fx j (in-new j h));
        })

    then_same : same_frame old new ≡ true → all n upper ≡ true
    unfolding setup_of
    then_same t =
        let f = frame_same old new t in
        all-intro n upper (λ j h.
        eq-eqb _ _ (upper-same (word_at x (3 + j)) (word_at s (3 + j))
        (number_of s held.front.most fs held.words j h ∙ sym (number_of x few fx asked.words j (in-new j h)))
        (sym (place_of s held.front.most fs j h) ∙ f.places j h ∙ place_of x few fx j (in-new j h))
        (sym (mark_of s held.front.most fs j h) ∙ ap (λ (m : ℕ). bit m j) f.marks ∙ mark_of x few fx j (in-new j h))))

    frame-upper : all n upper ≡ same_frame old new
    frame-upper = iff-eq (all n upper) (same_frame old new) same_then then_same

  -- both have words for as many modules
  pub frame-room : {a b : Bool} {u v m : ℕ} → a ≡ fades_in (word_at s) → b ≡ fades_in (word_at x) → a || b ≡ false → u ≡ word_at s 0 → v ≡ word_at x 0 → u ≡ v
      → m ≡ size_in (word_at s 0) → (m ≤ 16) × ((m + 3) * 4 ≤ length s) × ((m + 3) * 4 ≤ length x)
  frame-room {a} {b} ea eb f eu ev e em =
      let fs : front_words (fades_in (word_at s)) ≡ 3 = ap front_words (sym ea ∙ or-false-l a b f) in
      let fx : front_words (fades_in (word_at x)) ≡ 3 = ap front_words (sym eb ∙ or-false-r a b f) in
      let few = held.front.most in
      let size : size_in (word_at s 0) ≡ size_in (word_at x 0) = ap size_in (sym eu ∙ e ∙ ev) in
      (omega arith, omega (arith, held.size, fs), omega (arith, asked.size, fx, size))

  pub frame-words : {a b r : Bool} {u v m : ℕ} → a ≡ fades_in (word_at s) → b ≡ fades_in (word_at x) → a || b ≡ false → u ≡ word_at s 0 → v ≡ word_at x 0 → u ≡ v
      → m ≡ size_in (word_at s 0) → r ≡ all m (λ j. eqb (word_at s (3 + j) / place_unit) (word_at x (3 + j) / place_unit)) → r ≡ same_frame old new
  frame-words {a} {b} ea eb f eu ev e em er =
      er ∙ ap (λ (m : ℕ). all m (λ j. eqb (word_at s (3 + j) / place_unit) (word_at x (3 + j) / place_unit))) em
      ∙ frame-upper (sym ea ∙ or-false-l a b f) (sym eb ∙ or-false-r a b f) (sym eu ∙ e ∙ ev)
