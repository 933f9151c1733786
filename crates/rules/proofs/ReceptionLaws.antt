-- Rule 2: what a heard word is, and what a read holds for each module.
use mathlib.Core.Path.{◌≡◌, refl, sym, ap, ◌∙◌}
use mathlib.Core.Bool.{Bool, true, false, cond, ◌&&◌, true≢false}
use mathlib.Core.List.{List}
use Prim.Native.Nat.{ℕ, ◌+◌, ◌*◌, ◌/◌, ◌%◌, ◌^◌, ◌≤◌, ◌<◌}
use native.Mathlib.Omega.{arith}
use lib.ListN.{get_or}
use lib.Dec.{eqb, ltb}
use lib.Pow.{pow_mono}
use borrow.Author.Tests.{eqb-true, eqb-false, ltb-true, ltb-false, eq-eqb, ne_eqb, lt-ltb, le-ltb}
use Rattle.words.specs.Word.{word_at}
use Rattle.words.specs.Bits.{bit, pack}
use Rattle.words.specs.Array.{array, replaced, Filled}
use Rattle.words.proofs.Truth.{cond-true, cond-false}
use Rattle.words.proofs.BitLaws.{bit-pack, bit-mod}
use Rattle.words.proofs.ArrayLaws.{array_at, array-ext, replaced-ahead, replaced-array}
use Rattle.std.specs.Prelude.{Ok, Err}
use Rattle.std.specs.Result.{is_ok, result_unwrap_or}
use Rattle.rules.specs.Hearing.{bus_word, Reception, reception_of, is_heard, heard_row, word_heard, entry_of, reading_of}
use Rattle.rules.specs.declared.Cause.TheVariants.{ControllerLoss, WrongKind, StrayBits}

-- a vector of n ≤ 16 modules fits below the kind
pub below-kind : (n v : ℕ) → n ≤ 16 → v < 2 ^ n → v < 2 ^ 28
below-kind n v h l = omega (arith, pow_mono {i = n} {j = 16} h)

-- ---- what reading a word answers, by its three tests

module _ (n : ℕ) (on : Bool) (w : ℕ) where
  pub word-lost : on ≡ false → Err ControllerLoss ≡ reception_of n on w
  unfolding reception_of
  word-lost e = sym (cond-false _ _ e)

  pub word-other : on ≡ true → (w / 2 ^ 28 ≡ 5 → ⊥) → Err WrongKind ≡ reception_of n on w
  unfolding reception_of
  word-other e k = sym (cond-true _ _ e ∙ cond-false _ _ (ne_eqb (w / 2 ^ 28) 5 k))

  pub word-stray : {power : ℕ} → on ≡ true → w / 2 ^ 28 ≡ 5 → power ≡ 2 ^ n → power ≤ w % 2 ^ 28 → Err StrayBits ≡ reception_of n on w
  unfolding reception_of
  word-stray e k p l = sym (cond-true _ _ e ∙ cond-true _ _ (eq-eqb (w / 2 ^ 28) 5 k) ∙ cond-false _ _ (le-ltb (w % 2 ^ 28) (2 ^ n) (omega (arith, p, l))))

  pub word-clean : {power : ℕ} → on ≡ true → w / 2 ^ 28 ≡ 5 → power ≡ 2 ^ n → w % 2 ^ 28 < power → Ok (w % 2 ^ 28) ≡ reception_of n on w
  unfolding reception_of
  word-clean e k p l = sym (cond-true _ _ e ∙ cond-true _ _ (eq-eqb (w / 2 ^ 28) 5 k) ∙ cond-true _ _ (lt-ltb (w % 2 ^ 28) (2 ^ n) (omega (arith, p, l))))

  -- one of the four holds
  pub word-cases : (P : Reception → Type 0) → (on ≡ false → P (Err ControllerLoss)) → (on ≡ true → (w / 2 ^ 28 ≡ 5 → ⊥) → P (Err WrongKind))
      → (on ≡ true → w / 2 ^ 28 ≡ 5 → 2 ^ n ≤ w % 2 ^ 28 → P (Err StrayBits))
      → (on ≡ true → w / 2 ^ 28 ≡ 5 → w % 2 ^ 28 < 2 ^ n → P (Ok (w % 2 ^ 28))) → P (reception_of n on w)
  unfolding reception_of
  word-cases P lost other stray clean = go on (eqb (w / 2 ^ 28) 5) (ltb (w % 2 ^ 28) (2 ^ n)) refl refl refl
    where
      go : (a k c : Bool) → on ≡ a → eqb (w / 2 ^ 28) 5 ≡ k → ltb (w % 2 ^ 28) (2 ^ n) ≡ c
          → P (cond a (cond k (cond c (Ok (w % 2 ^ 28)) (Err StrayBits)) (Err WrongKind)) (Err ControllerLoss))
      go false k c e t l = lost e
      go true false c e t l = other e (eqb-false (w / 2 ^ 28) 5 t)
      go true true false e t l = stray e (eqb-true (w / 2 ^ 28) 5 t) (ltb-false (w % 2 ^ 28) (2 ^ n) l)
      go true true true e t l = clean e (eqb-true (w / 2 ^ 28) 5 t) (ltb-true (w % 2 ^ 28) (2 ^ n) l)

-- a heard word is the bus word of its row
pub heard-is : (n w : ℕ) → word_heard n w ≡ true → (w ≡ bus_word (w % 2 ^ 28)) × (w % 2 ^ 28 < 2 ^ n)
unfolding is_heard bus_word
heard-is n w =
    word-cases n true w (λ r. is_heard r ≡ true → (w ≡ 5 * 2 ^ 28 + w % 2 ^ 28) × (w % 2 ^ 28 < 2 ^ n))
    (λ e h. absurd (true≢false (sym h))) (λ e k h. absurd (true≢false (sym h))) (λ e k l h. absurd (true≢false (sym h)))
    (λ e k l h. (omega arith, l))

-- a bus word holds its row
pub row-of-bus : (v : ℕ) → v < 2 ^ 28 → bus_word v % 2 ^ 28 ≡ v
unfolding bus_word
row-of-bus v h = omega arith

-- and is heard, if the row has no bits at n or above
pub bus-heard : (n v : ℕ) → n ≤ 16 → v < 2 ^ n → word_heard n (bus_word v) ≡ true
unfolding is_heard bus_word
bus-heard n v h l =
    let b = below-kind n v h l in
    let kind : (5 * 2 ^ 28 + v) / 2 ^ 28 ≡ 5 = omega arith in
    let row : (5 * 2 ^ 28 + v) % 2 ^ 28 ≡ v = omega arith in
    ap is_heard (sym (word-clean n true (5 * 2 ^ 28 + v) refl kind refl (omega arith)))

-- ---- one entry

pub entry-heard : (n : ℕ) (on : Bool) (w : ℕ) → (entry_of n on w).heard ≡ on && word_heard n w
unfolding entry_of reception_of is_heard
entry-heard n true w = refl
entry-heard n false w = refl

-- a heard entry's row is the low bits of its word
pub entry_row : (n : ℕ) (on : Bool) (w : ℕ) → (entry_of n on w).heard ≡ true → (entry_of n on w).row ≡ w % 2 ^ 28
unfolding entry_of is_heard heard_row
entry_row n on w =
    word-cases n on w (λ r. is_heard r ≡ true → heard_row r ≡ w % 2 ^ 28) (λ e h. absurd (true≢false (sym h))) (λ e k h. absurd (true≢false (sym h)))
    (λ e k l h. absurd (true≢false (sym h))) (λ e k l h. refl)

-- a row has no bits at n or above, and none at all where the module is missing
pub entry-small : (n : ℕ) (on : Bool) (w : ℕ) → (entry_of n on w).row < cond (entry_of n on w).heard (2 ^ n) 1
unfolding entry_of is_heard heard_row
entry-small n on w =
    word-cases n on w (λ r. heard_row r < cond (is_heard r) (2 ^ n) 1) (λ e. omega arith) (λ e k. omega arith) (λ e k l. omega arith) (λ e k l. l)

pub entry-bit : (n : ℕ) (on : Bool) (w j : ℕ) → j < 28 → (entry_of n on w).heard ≡ true → bit (entry_of n on w).row j ≡ bit w j
entry-bit n on w j h e = ap (λ (v : ℕ). bit v j) (entry_row n on w e) ∙ bit-mod 28 w j h

-- ---- a read

-- a read whose entries are all taken
pub reading-by : {heard : ℕ} {rows : List ℕ} (j n : ℕ) (read : List ℕ) (controller : ℕ) → j ≡ n
    → heard ≡ pack j (λ k. (entry_of n (bit controller k) (word_at read k)).heard)
    → rows ≡ array j (λ k. (entry_of n (bit controller k) (word_at read k)).row)
    → record { heard = heard; rows = rows } ≡ reading_of n read controller
unfolding reading_of
reading-by j n read controller e h r = rw (h, r, e)

-- the same in parts, where the rows are lent
module _ (j n : ℕ) (read : List ℕ) (controller : ℕ) (e : j ≡ n) where
  pub heard-by : {heard : ℕ} → heard ≡ pack j (λ k. (entry_of n (bit controller k) (word_at read k)).heard) → heard ≡ (reading_of n read controller).heard
  unfolding reading_of
  heard-by h = rw (h, e)

  pub rows-by : {rows : List ℕ} → rows ≡ array j (λ k. (entry_of n (bit controller k) (word_at read k)).row) → rows ≡ (reading_of n read controller).rows
  unfolding reading_of
  rows-by r = rw (r, e)

  -- and where the rows of the previous read are replaced by those of this one, but below `split`
  pub rows-aligned : {rows : List ℕ} (split : ℕ) (a : List ℕ) → n ≤ 16 → Filled n a
      → rows ≡ replaced j (λ k. cond (ltb k split) (get_or a k 0) (entry_of n (bit controller k) (word_at read k)).row) a
      → rows ≡ array n (λ k. cond (ltb k split) (get_or a k 0) (get_or (reading_of n read controller).rows k 0))
  unfolding reading_of
  rows-aligned split a small f r =
      replaced-array n n _ a (omega arith) small f (λ i s t. absurd (omega arith)) (rw e at r)
      ∙ array-ext n _ _ (λ k l. ap (λ (v : ℕ). cond (ltb k split) (get_or a k 0) v) (sym (array_at n _ k l small)))

-- what code asks of a result
pub ok-heard : (r : Reception) → is_ok r ≡ is_heard r
unfolding is_heard
ok-heard (Ok row) = refl
ok-heard (Err cause) = refl

pub or-row : (r : Reception) → result_unwrap_or r 0 ≡ heard_row r
unfolding heard_row
or-row (Ok row) = refl
or-row (Err cause) = refl

-- an entry by the answer that reading its word gave
module _ (n : ℕ) (on : Bool) (w : ℕ) {r : Reception} (e : r ≡ reception_of n on w) where
  pub heard-of : {b : Bool} → b ≡ is_ok r → b ≡ (entry_of n on w).heard
  unfolding entry_of
  heard-of h = h ∙ ok-heard r ∙ ap is_heard e

  pub row_of : {v : ℕ} → v ≡ result_unwrap_or r 0 → v ≡ (entry_of n on w).row
  unfolding entry_of
  row_of h = h ∙ or-row r ∙ ap heard_row e

-- the row that a turn replaces
pub kept_row : {l : List ℕ} {u v : ℕ} (b : Bool) (a : List ℕ) (j : ℕ) (f : ℕ → ℕ) (w : ℕ) → l ≡ replaced j f a → v ≡ w
    → u ≡ cond b (get_or l j 0) v → u ≡ cond b (get_or a j 0) w
kept_row b a j f w e q r = rw (e, replaced-ahead j f a j (omega arith), q) at r

module _ (n : ℕ) (read : List ℕ) (controller j : ℕ) (h : j < n) where
  pub reading-heard : bit (reading_of n read controller).heard j ≡ (entry_of n (bit controller j) (word_at read j)).heard
  unfolding reading_of
  reading-heard = bit-pack n _ j h

  pub reading-row : n ≤ 16 → get_or (reading_of n read controller).rows j 0 ≡ (entry_of n (bit controller j) (word_at read j)).row
  unfolding reading_of
  reading-row small = array_at n _ j h small
