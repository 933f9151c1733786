-- The words of a saved scan lock, written and read back.
use Prim.Native.Nat.{ℕ, zero, suc, ◌+◌, ◌-◌, ◌*◌, ◌/◌, ◌%◌, ◌^◌, ◌≤◌, ◌<◌}
use mathlib.Core.Path.{◌≡◌, refl, sym, ap, ap₂, ◌∙◌}
use mathlib.Core.Bool.{Bool, true, false, ◌&&◌}
use mathlib.Core.Logic.{⊎_elim}
use mathlib.Core.List.{List}
use native.Mathlib.Omega.{arith}
use borrow.Author.Tests.{eqb-true, eq-eqb, ne_eqb, leb-true, leb-false, le-leb, lt-ltb, ltb-true}
use native.Mathlib.Nat.{le_of_eq}
use lib.Dec.{eqb, leb}
use lib.ListN.{get_or, length, replicate, length-replicate}
use lib.Seq.{ext_get_or}
use lib.Pow.{pow_mono}
use Rattle.words.specs.Word.{word_at}
use Rattle.words.specs.Bits.{bit, b2n}
use Rattle.words.specs.Table.{updated}
use Rattle.words.proofs.Truth.{which, cond-true, cond-false, and_l, and_r, and-true, clash}
use Rattle.words.proofs.BitLaws.{bit_high}
use Rattle.words.proofs.ByteLaws.{bytes-length, word_of, bytes-ext}
use Rattle.words.proofs.ByteLaws.{bytes-own}
use Rattle.words.proofs.TableLaws.{updated-at, updated-length}
use Rattle.words.specs.Verdict.{accepted}
use Rattle.scanlock.specs.Axis.{axis, free, present}
use Rattle.scanlock.specs.SoundLocks.{held_well, axis_fits, SoundLocks}
use Rattle.scanlock.specs.declared.Axis.{Axis}
use Rattle.scanlock.specs.declared.Locks.{Locks}
use Rattle.scanlock.proofs.SoundLocks.{Fits, fits-of}
use Rattle.lockcalls.specs.LockImage.{lock_head, lock_head_ok, axis_word, axis_in, axis_ok, lock_word, lock_image, axes_in, locks_of, check_lock_image}
use Rattle.lockcalls.proofs.LockCheckLaws.{Good, good-check, image-good}

-- ---- the word of an axis

-- the flags of a word, and its other fields
flags : (h d : ℕ) (m s : Bool) → h < 32 → d < 16
    → axis ((h % 32 * 256 + d % 16 * 16 + b2n m * 2 + b2n s) / 256 % 32) ((h % 32 * 256 + d % 16 * 16 + b2n m * 2 + b2n s) / 16 % 16)
    (eqb ((h % 32 * 256 + d % 16 * 16 + b2n m * 2 + b2n s) / 2 % 2) 1) (eqb ((h % 32 * 256 + d % 16 * 16 + b2n m * 2 + b2n s) % 2) 1)
    ≡ axis h d m s
flags h d m s lh ld =
    let f : b2n m ≤ 1 = small m in
    let g : b2n s ≤ 1 = small s in
    let w = h % 32 * 256 + d % 16 * 16 + b2n m * 2 + b2n s in
    let e1 : w / 256 % 32 ≡ h = omega arith in
    let e2 : w / 16 % 16 ≡ d = omega arith in
    let e3 : w / 2 % 2 ≡ b2n m = omega arith in
    let e4 : w % 2 ≡ b2n s = omega arith in
    rw (e1, e2, e3, e4, back m, back s) refl
  where
    small : (b : Bool) → b2n b ≤ 1
    small true = omega arith
    small false = omega arith

    back : (b : Bool) → eqb (b2n b) 1 ≡ b
    back true = refl
    back false = refl

-- a holder is one of the modules
small-holder : (n view : ℕ) (x : Axis) → n ≤ 16 → view < 2 ^ n → Fits view x → x.holder < 32
unfolding held_well present
small-holder n view x h v f =
    ⊎_elim
    (λ (o : eqb x.depth 0 ≡ true).
    let e : eqb x.holder 0 ≡ true = sym (cond-true _ _ o) ∙ f.owned in
    let z = eqb-true x.holder 0 e in
    omega arith)
    (λ (o : eqb x.depth 0 ≡ false).
    let p : leb 1 x.holder && bit view (x.holder - 1) ≡ true = sym (cond-false _ _ o) ∙ f.owned in
    ⊎_elim
    (λ (q : leb x.holder 16 ≡ true). let l = leb-true x.holder 16 q in omega arith)
    (λ (q : leb x.holder 16 ≡ false).
    let l = leb-false x.holder 16 q in
    let m : n ≤ x.holder - 1 = omega arith in
    clash _ (and_r (leb 1 x.holder) _ p) (bit_high view n (x.holder - 1) v m))
    (which (leb x.holder 16)))
    (which (eqb x.depth 0))

pub axis-back : (n view : ℕ) (x : Axis) → n ≤ 16 → view < 2 ^ n → Fits view x → axis_in (axis_word x) ≡ x
unfolding axis_in axis_word
axis-back n view x h v f =
    let l = small-holder n view x h v f in
    flags x.holder x.depth x.moving x.stopping l (room x.depth f.deep)
  where
    room : (d : ℕ) → d ≤ 8 → d < 16
    room d h = omega arith

axis-right : (n view : ℕ) (x : Axis) → n ≤ 16 → view < 2 ^ n → axis_fits view x ≡ true → axis_ok view (axis_word x) ≡ true
unfolding axis_ok
axis-right n view x h v f =
    let e = axis-back n view x h v (fits-of view x f) in
    and-true _ _ (eq-eqb _ _ (ap axis_word e)) (ap (axis_fits view) e ∙ f)

-- ---- the head

head-fields : (n view : ℕ) → n ≤ 16 → view < 2 ^ 16 → (lock_head n view / 2 ^ 16 ≡ n) × (lock_head n view % 2 ^ 16 ≡ view)
unfolding lock_head
head-fields n view h v = (omega arith, omega arith)

small-view : (n view : ℕ) → n ≤ 16 → view < 2 ^ n → view < 2 ^ 16
small-view n view h v = omega (arith, pow_mono {i = n} {j = 16} h)

-- ---- the image of sound locks

module _ (st : Locks) (s : SoundLocks st) where
  word_in : (i : ℕ) → i < 9 → word_at (lock_image st) i ≡ lock_word st i
  unfolding lock_image
  word_in i h = word_of 9 (lock_word st) i h

  axis-word : (i : ℕ) → i < 8 → word_at (lock_image st) (i + 1) ≡ axis_word (get_or st.axes i free)
  unfolding lock_word
  axis-word i h =
      let z : i + 1 - 1 ≡ i = omega arith in
      word_in (i + 1) (omega arith) ∙ cond-false _ _ (ne_eqb (i + 1) 0 (λ (e : i + 1 ≡ 0). omega arith))
      ∙ ap (λ (j : ℕ). axis_word (get_or st.axes j free)) z

  head-word : word_at (lock_image st) 0 ≡ lock_head st.n st.view
  unfolding lock_word
  head-word = word_in 0 (omega arith)

  fields : (word_at (lock_image st) 0 / 2 ^ 16 ≡ st.n) × (word_at (lock_image st) 0 % 2 ^ 16 ≡ st.view)
  fields =
      let (a, b) = head-fields st.n st.view s.most (small-view _ _ s.most s.view) in
      (ap (λ (w : ℕ). w / 2 ^ 16) head-word ∙ a, ap (λ (w : ℕ). w % 2 ^ 16) head-word ∙ b)

  image-length : length (lock_image st) ≡ 36
  unfolding lock_image
  image-length = bytes-length 9 (lock_word st)

  image-right : Good (lock_image st)
  unfolding lock_head_ok
  image-right =
      let (a, b) = fields in
      record {
        head =
            rw (a, b) (and-true _ _ (and-true _ _ (le-leb 2 st.n s.least) (le-leb st.n 16 s.most)) (lt-ltb _ _ s.view));
        nine = image-length;
        axes =
            λ i h. ap₂ (λ (v w : ℕ). axis_ok v w) b (axis-word i h) ∙ axis-right st.n st.view _ s.most s.view (s.each i h);
      }

  axes-back : axes_in (lock_image st) ≡ st.axes
  unfolding axes_in
  axes-back =
      let f : ℕ → Axis = λ i. axis_in (word_at (lock_image st) (i + 1)) in
      let l : length (updated 8 f (replicate 8 free)) ≡ 8 = updated-length 8 f (replicate 8 free) ∙ length-replicate {A = Axis} 8 free in
      ext_get_or free _ st.axes (l ∙ sym s.eight)
      (λ i h.
      let k : i < 8 = omega (arith, l) in
      updated-at 8 f (replicate 8 free) i free k (le_of_eq (sym (length-replicate {A = Axis} 8 free)))
      ∙ ap axis_in (axis-word i k) ∙ axis-back st.n st.view _ s.most s.view (fits-of _ _ (s.each i k)))

  locks-back : locks_of (lock_image st) ≡ st
  unfolding locks_of
  locks-back = let (a, b) = fields in rw (a, b, axes-back) refl

pub lock-written-read : (st : Locks) → SoundLocks st → (check_lock_image (lock_image st) ≡ accepted) × (locks_of (lock_image st) ≡ st)
lock-written-read st s = (good-check (lock_image st) (image-right st s), locks-back st s)

-- ---- the locks of an accepted image

module _ (s : List ℕ) (g : Good s) where
  view_in_lem : word_at s 0 % 2 ^ 16 < 2 ^ (word_at s 0 / 2 ^ 16)
  unfolding lock_head_ok
  view_in_lem = ltb-true _ _ (and_r (leb 2 (word_at s 0 / 2 ^ 16) && leb (word_at s 0 / 2 ^ 16) 16) _ g.head)

  n-in : (2 ≤ word_at s 0 / 2 ^ 16) × (word_at s 0 / 2 ^ 16 ≤ 16)
  unfolding lock_head_ok
  n-in =
      let a = and_l (leb 2 (word_at s 0 / 2 ^ 16) && leb (word_at s 0 / 2 ^ 16) 16) _ g.head in
      (leb-true 2 _ (and_l (leb 2 (word_at s 0 / 2 ^ 16)) _ a), leb-true _ 16 (and_r (leb 2 (word_at s 0 / 2 ^ 16)) _ a))

  axis-at : (i : ℕ) → i < 8 → get_or (axes_in s) i free ≡ axis_in (word_at s (i + 1))
  unfolding axes_in
  axis-at i h =
      updated-at 8 (λ j. axis_in (word_at s (j + 1))) (replicate 8 free) i free h (le_of_eq (sym (length-replicate {A = Axis} 8 free)))

  eight-axes : length (axes_in s) ≡ 8
  unfolding axes_in
  eight-axes = updated-length 8 (λ j. axis_in (word_at s (j + 1))) (replicate 8 free) ∙ length-replicate {A = Axis} 8 free

  read-sound : SoundLocks (locks_of s)
  unfolding locks_of axis_ok
  read-sound =
      let (a, b) = n-in in
      record {
        least = a;
        most = b;
        view = view_in_lem;
        eight = eight-axes;
        each = λ i h. ap (axis_fits (word_at s 0 % 2 ^ 16)) (axis-at i h)
            ∙ and_r (eqb (axis_word (axis_in (word_at s (i + 1)))) (word_at s (i + 1))) _ (g.axes i h);
      }

  read_word : (i : ℕ) → i < 9 → lock_word (locks_of s) i ≡ word_at s i
  unfolding lock_word locks_of lock_head axis_ok
  read_word zero h =
      let (a, b) = n-in in let e : word_at s 0 / 2 ^ 16 % 2 ^ 16 * 2 ^ 16 + word_at s 0 % 2 ^ 16 % 2 ^ 16 ≡ word_at s 0 = omega arith in e
  read_word (suc i) h =
      let z : suc i - 1 ≡ i = omega arith in
      let o : i + 1 ≡ suc i = omega arith in
      let k : i < 8 = omega arith in
      cond-false _ _ (ne_eqb (suc i) 0 (λ (e : suc i ≡ 0). omega arith))
      ∙ ap (λ (j : ℕ). axis_word (get_or (axes_in s) j free)) z ∙ ap axis_word (axis-at i k)
      ∙ eqb-true _ _ (and_l (eqb (axis_word (axis_in (word_at s (i + 1)))) (word_at s (i + 1))) _ (g.axes i k)) ∙ ap (word_at s) o

  image-back : ((i : ℕ) → get_or s i 0 < 256) → lock_image (locks_of s) ≡ s
  unfolding lock_image
  image-back b = bytes-ext 9 _ _ read_word ∙ bytes-own s 9 b g.nine

pub lock-read-written : (s : List ℕ) → ((i : ℕ) → get_or s i 0 < 256) → (check_lock_image s).number ≡ 0 → SoundLocks (locks_of s) × (lock_image (locks_of s) ≡ s)
lock-read-written s b e = let g = image-good s e in (read-sound s g, image-back s g b)
