-- View words: which are heard, what a read keeps of them, and how they are aligned.
use mathlib.Core.Path.{◌≡◌, sym, refl, ap, ◌∙◌}
use mathlib.Core.Bool.{Bool, true, false, cond, not, ◌&&◌}
use mathlib.Core.List.{List}
use Prim.Native.Nat.{ℕ, ◌+◌, ◌*◌, ◌/◌, ◌%◌, ◌^◌, ◌<◌, ◌≤◌, zero-le}
use native.Mathlib.Omega.{arith}
use lib.ListN.{get_or, length}
use lib.Dec.{eqb, ltb}
use borrow.Author.Tests.{eqb-true, eq-eqb, ne_eqb, ltb-true, lt-ltb, le-ltb}
use Rattle.words.specs.Word.{word_at}
use Rattle.words.specs.Bits.{bit}
use Rattle.words.specs.Array.{array, replaced}
use Rattle.words.proofs.Truth.{and_l, and_r, and-true, cond-false}
use Rattle.words.proofs.BitLaws.{bit-low}
use Rattle.words.proofs.ArrayLaws.{clear_from, array_at, array-ext, array-length, array-clear, replaced-ahead, replaced-at}
use Rattle.rules.specs.Alignment.{from_previous}
use Rattle.rules.proofs.ReceptionLaws.{below-kind}
use Rattle.views.specs.ViewWord.{view_word, view_word_heard, view_entry, read_words, views_read, aligned_views}
use Rattle.views.specs.Adoption.{is_there}

-- ---- which are heard

-- a view without bits at n or above is heard
pub view-heard : (n v : ℕ) → n ≤ 16 → v < 2 ^ n → view_word_heard n (view_word v) ≡ true
unfolding view_word_heard
view-heard n v h l =
    let b = below-kind n v h l in
    let kind : (10 * 2 ^ 28 + v) / 2 ^ 28 ≡ 10 = omega arith in
    let view : (10 * 2 ^ 28 + v) % 2 ^ 28 ≡ v = omega arith in
    and-true (eqb ((10 * 2 ^ 28 + v) / 2 ^ 28) 10) _ (eq-eqb _ 10 kind) (rw view (lt-ltb v (2 ^ n) l))

-- and a word that is heard is that of such a view
pub heard-view : (n w : ℕ) → view_word_heard n w ≡ true → (w ≡ view_word (w % 2 ^ 28)) × (w % 2 ^ 28 < 2 ^ n)
unfolding view_word_heard
heard-view n w t =
    let e : w / 2 ^ 28 ≡ 10 = eqb-true (w / 2 ^ 28) 10 (and_l (eqb (w / 2 ^ 28) 10) _ t) in
    (omega arith, ltb-true _ _ (and_r (eqb (w / 2 ^ 28) 10) _ t))

-- it is not 0
pub heard-some : (n w : ℕ) → view_word_heard n w ≡ true → eqb w 0 ≡ false
heard-some n w t =
    let e = (heard-view n w t).0 in
    ne_eqb w 0 (λ z. omega arith)

-- its bits are those of the view
pub view-bit : (v j : ℕ) → j < 28 → bit (view_word v) j ≡ bit v j
view-bit v j h =
    let e : 10 * 2 ^ 28 + v ≡ v + 10 * 2 ^ 28 = omega arith in
    ap (λ (w : ℕ). bit w j) e ∙ bit-low 10 v 28 j h

-- ---- how many words a read has

pub words-least : (b : Bool) (n : ℕ) → n ≤ read_words b n
words-least true n = omega arith
words-least false n = omega arith

pub words-most : (b : Bool) (n : ℕ) → read_words b n ≤ n + n
words-most true n = omega arith
words-most false n = omega arith

-- ---- what a read keeps

-- an entry is there exactly where the word is heard, and is then the word
pub entry-there : (n : ℕ) (on : Bool) (w : ℕ) → is_there (view_entry n on w) ≡ on && view_word_heard n w
unfolding view_entry
entry-there n on w = go (on && view_word_heard n w) refl
  where
    go : (b : Bool) → on && view_word_heard n w ≡ b → is_there (cond b w 0) ≡ b
    go true t = ap not (heard-some n w (and_r on _ t))
    go false f = refl

pub entry-says : (n : ℕ) (on : Bool) (w : ℕ) (p : ℕ → Bool) → is_there (view_entry n on w) && p (view_entry n on w) ≡ (on && view_word_heard n w) && p w
unfolding view_entry
entry-says n on w p = go (on && view_word_heard n w) refl
  where
    go : (b : Bool) → on && view_word_heard n w ≡ b → is_there (cond b w 0) && p (cond b w 0) ≡ b && p w
    go true t = ap (λ (x : Bool). not x && p w) (heard-some n w (and_r on _ t))
    go false f = refl

-- as the code makes it
pub entry-by : (n : ℕ) {on on' heard : Bool} {w w' r : ℕ} → on ≡ on' → w ≡ w' → heard ≡ view_word_heard n w → r ≡ cond (on && heard) w 0 → r ≡ view_entry n on' w'
unfolding view_entry
entry-by n e q h r = rw (h, e, q) at r

module _ (n : ℕ) (read : List ℕ) (controller : ℕ) where
  pub views-at : (j : ℕ) → j < n → n ≤ 16 → get_or (views_read n read controller) j 0 ≡ view_entry n (bit controller j) (word_at read (n + j))
  unfolding views_read
  views-at j h small = array_at n _ j h small

  pub views-clear : clear_from n (views_read n read controller) ≡ true
  unfolding views_read
  views-clear = array-clear n _

  pub views-length : length (views_read n read controller) ≡ 16
  unfolding views_read
  views-length = array-length n _

-- ---- alignment

module _ (n : ℕ) (previous this : List ℕ) where
  pub aligned_at : (skew : Bool) (place j : ℕ) → j < n → n ≤ 16
      → get_or (aligned_views n skew place previous this) j 0 ≡ cond (from_previous skew place j) (get_or previous j 0) (get_or this j 0)
  unfolding aligned_views
  aligned_at skew place j h small = array_at n _ j h small

  -- one number is enough: the read place, or 0 where reads are not skewed
  pub split-aligned : (skew : Bool) (place : ℕ) {split : ℕ} → split ≡ cond skew place 0
      → array n (λ j. cond (ltb j split) (get_or previous j 0) (get_or this j 0)) ≡ aligned_views n skew place previous this
  unfolding aligned_views
  split-aligned true place e = ap (λ (s : ℕ). array n (λ j. cond (ltb j s) (get_or previous j 0) (get_or this j 0))) e
  split-aligned false place e =
      ap (λ (s : ℕ). array n (λ j. cond (ltb j s) (get_or previous j 0) (get_or this j 0))) e
      ∙ array-ext n (λ j. cond (ltb j 0) (get_or previous j 0) (get_or this j 0)) (λ j. get_or this j 0) (λ j h. cond-false _ _ (le-ltb j 0 zero-le))

-- in an array that holds the previous read, an entry that was not yet reached is the one that it had
pub kept-view : {l : List ℕ} {u : ℕ} (b : Bool) (a : List ℕ) (j : ℕ) (f : ℕ → ℕ) (w : ℕ) → l ≡ replaced j f a → u ≡ cond b (get_or l j 0) w
    → u ≡ cond b (get_or a j 0) w
kept-view b a j f w e h = h ∙ ap (λ (x : ℕ). cond b x w) (ap (λ (x : List ℕ). get_or x j 0) e ∙ replaced-ahead j f a j (omega arith))

pub replaced-end : {l : List ℕ} {j n : ℕ} (f : ℕ → ℕ) (a : List ℕ) → j ≡ n → l ≡ replaced j f a → l ≡ replaced n f a
replaced-end f a e h = rw e at h

-- which are those of the array of the first n
pub replaced-same : {l : List ℕ} (n : ℕ) (f : ℕ → ℕ) (a : List ℕ) → n ≤ 16 → length a ≡ 16 → l ≡ replaced n f a
    → (j : ℕ) → j < n → get_or l j 0 ≡ get_or (array n f) j 0
replaced-same n f a small long e j h =
    ap (λ (x : List ℕ). get_or x j 0) e ∙ replaced-at n f a j h (omega (arith, long)) ∙ sym (array_at n f j h small)
