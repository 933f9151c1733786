-- Each code has its one meaning: the four answers exclude one another, and stray bits are bits at n or above.
use Prim.Native.Nat.{ℕ, ◌/◌, ◌%◌, ◌^◌, ◌≤◌, ◌<◌}
use mathlib.Core.Path.{◌≡◌, refl, sym, ◌∙◌}
use mathlib.Core.Logic.{◌≢◌, ◌↔◌, ⊎_elim}
use mathlib.Core.Bool.{Bool, true, false, ◌&&◌, true≢false}
use mathlib.Core.List.{List}
use native.Mathlib.Omega.{arith}
use native.Mathlib.Nat.{mod-eq_of_lt, mod-lt}
use lib.ListN.{get_or}
use lib.Dec.{leb, ltb}
use lib.Pow.{pow_mono, pow_pos}
use borrow.Author.Tests.{leb-true, leb-false, le-leb, ltb-true, ltb-false}
use Rattle.words.specs.Word.{word_at, bytes_of}
use Rattle.words.specs.Bits.{bit}
use Rattle.words.specs.Count.{any}
use Rattle.words.specs.Array.{array}
use Rattle.words.proofs.Truth.{which, clash, and_l, and_r}
use Rattle.words.proofs.BitLaws.{bit_high, bit-mod, bit-ext, pack-bits, pack-ext}
use Rattle.words.proofs.CountLaws.{any-witness, any_none}
use Rattle.words.proofs.ArrayLaws.{array_at, array-above}
use Rattle.std.specs.Prelude.{Ok, Err}
use Rattle.rules.specs.Hearing.{Reception, reception_of, is_heard, heard_row, cause_in, entry_of, reading_of, causes_of}
use Rattle.rules.specs.Causes.{cause_of, Causes, CasesRight}
use Rattle.rules.specs.declared.Cause.TheVariants.{ControllerLoss, WrongKind, StrayBits}
use Rattle.rules.proofs.ReceptionLaws.{word-cases, reading-heard}

-- ---- stray bits

-- the low 28 bits are below 2 ^ n exactly if none of bits 27..n is set
bits_none : (n w : ℕ) → w % 2 ^ 28 < 2 ^ n → (b : ℕ) → n ≤ b → b < 28 → bit w b ≡ false
bits_none n w l b h k = sym (bit-mod 28 w b k) ∙ bit_high (w % 2 ^ 28) n b l h

none_below : (n w : ℕ) → ((b : ℕ) → n ≤ b → b < 28 → bit w b ≡ false) → w % 2 ^ 28 < 2 ^ n
none_below n w none =
    ⊎_elim
    (λ (t : leb n 28 ≡ true).
    let h = leb-true n 28 t in
    let small : w % 2 ^ 28 % 2 ^ n < 2 ^ n = mod-lt _ (pow_pos n) in
    let e = bit-ext 28 (w % 2 ^ 28) (w % 2 ^ 28 % 2 ^ n) (omega arith) (omega (arith, pow_mono {i = n} {j = 28} h)) (same small) in
    omega arith)
    (λ (f : leb n 28 ≡ false).
    let h : 28 ≤ n = omega (arith, leb-false n 28 f) in
    omega (arith, pow_mono {i = 28} {j = n} h))
    (which (leb n 28))
  where
    same : w % 2 ^ 28 % 2 ^ n < 2 ^ n → (i : ℕ) → i < 28 → bit (w % 2 ^ 28) i ≡ bit (w % 2 ^ 28 % 2 ^ n) i
    same small i k =
        ⊎_elim (λ (t : ltb i n ≡ true). sym (bit-mod n (w % 2 ^ 28) i (ltb-true i n t)))
        (λ (f : ltb i n ≡ false).
        let l = ltb-false i n f in
        bit-mod 28 w i k ∙ none i l k ∙ sym (bit_high (w % 2 ^ 28 % 2 ^ n) n i small l))
        (which (ltb i n))

-- so one of them is set where they are not
some-set : (n w : ℕ) → 2 ^ n ≤ w % 2 ^ 28 → (b : ℕ) × (n ≤ b) × (b < 28) × (bit w b ≡ true)
some-set n w l =
    ⊎_elim
    (λ (t : any 28 (λ b. leb n b && bit w b) ≡ true).
    let (b, k, e) = any-witness 28 (λ b. leb n b && bit w b) t in
    (b, leb-true n b (and_l (leb n b) _ e), k, and_r (leb n b) _ e))
    (λ (f : any 28 (λ b. leb n b && bit w b) ≡ false).
    let below = none_below n w (λ b h k. and_right (leb n b) (bit w b) (le-leb n b h) (any_none 28 (λ b. leb n b && bit w b) f b k)) in
    absurd (omega arith))
    (which (any 28 (λ b. leb n b && bit w b)))
  where
    and_right : (a b : Bool) → a ≡ true → a && b ≡ false → b ≡ false
    and_right true b e f = f
    and_right false b e f = clash _ e refl

-- ---- one word

module _ (n : ℕ) (on : Bool) (w : ℕ) where
  loss : (cause_of n on w ≡ 1) ↔ (on ≡ false)
  unfolding cause_in
  loss =
      word-cases n on w (λ r. (cause_in r ≡ 1) ↔ (on ≡ false)) (λ e. ((λ h. e), (λ h. refl)))
      (λ e k. ((λ h. absurd (omega arith)), (λ h. clash on e h)))
      (λ e k l. ((λ h. absurd (omega arith)), (λ h. clash on e h)))
      (λ e k l. ((λ h. absurd (omega arith)), (λ h. clash on e h)))

  kind : (cause_of n on w ≡ 2) ↔ ((on ≡ true) × (w / 2 ^ 28 ≢ 5))
  unfolding cause_in
  kind =
      word-cases n on w (λ r. (cause_in r ≡ 2) ↔ ((on ≡ true) × (w / 2 ^ 28 ≢ 5)))
      (λ e. ((λ h. absurd (omega arith)), (λ h. clash on h.0 e)))
      (λ e k. ((λ h. (e, k)), (λ h. refl)))
      (λ e k l. ((λ h. absurd (omega arith)), (λ h. absurd (h.1 k))))
      (λ e k l. ((λ h. absurd (omega arith)), (λ h. absurd (h.1 k))))

  abbrev Set : Type 0
  Set = (b : ℕ) × (n ≤ b) × (b < 28) × (bit w b ≡ true)

  stray : (cause_of n on w ≡ 3) ↔ ((on ≡ true) × (w / 2 ^ 28 ≡ 5) × Set)
  unfolding cause_in
  stray =
      word-cases n on w (λ r. (cause_in r ≡ 3) ↔ ((on ≡ true) × (w / 2 ^ 28 ≡ 5) × Set))
      (λ e. ((λ h. absurd (omega arith)), (λ h. clash on h.0 e)))
      (λ e k. ((λ h. absurd (omega arith)), (λ h. absurd (k h.1))))
      (λ e k l. ((λ h. (e, k, some-set n w l)), (λ h. refl)))
      (λ e k l. ((λ h. absurd (omega arith)), (λ h. let (b, i, j, t) = h.2 in clash (bit w b) t (bits_none n w l b i j))))

  heard : (cause_of n on w ≡ 0) ↔ ((on ≡ true) × (w / 2 ^ 28 ≡ 5) × ((b : ℕ) → n ≤ b → b < 28 → bit w b ≡ false))
  unfolding cause_in
  heard =
      word-cases n on w (λ r. (cause_in r ≡ 0) ↔ ((on ≡ true) × (w / 2 ^ 28 ≡ 5) × ((b : ℕ) → n ≤ b → b < 28 → bit w b ≡ false)))
      (λ e. ((λ h. absurd (omega arith)), (λ h. clash on h.0 e)))
      (λ e k. ((λ h. absurd (omega arith)), (λ h. absurd (k h.1))))
      (λ e k l. ((λ h. absurd (omega arith)), (λ h. let below = none_below n w h.2 in absurd (omega arith))))
      (λ e k l. ((λ h. (e, k, bits_none n w l)), (λ h. refl)))

  pub codes : cause_of n on w ≤ 3
  unfolding cause_in
  codes = word-cases n on w (λ r. cause_in r ≤ 3) (λ e. omega arith) (λ e k. omega arith) (λ e k l. omega arith) (λ e k l. omega arith)

  row : n ≤ 28 → cause_of n on w ≡ 0 → heard_row (reception_of n on w) ≡ w % 2 ^ n
  unfolding cause_in heard_row
  row small =
      word-cases n on w (λ r. cause_in r ≡ 0 → heard_row r ≡ w % 2 ^ n)
      (λ e h. absurd (omega arith)) (λ e k h. absurd (omega arith)) (λ e k l h. absurd (omega arith))
      (λ e k l h. sym (mod-eq_of_lt l) ∙ sym (pack-bits n (w % 2 ^ 28)) ∙ pack-ext n _ _ (λ i h. bit-mod 28 w i (omega arith)) ∙ pack-bits n w)

  no_row : cause_of n on w ≢ 0 → heard_row (reception_of n on w) ≡ 0
  unfolding cause_in heard_row
  no_row =
      word-cases n on w (λ r. cause_in r ≢ 0 → heard_row r ≡ 0) (λ e h. refl) (λ e k h. refl) (λ e k l h. refl) (λ e k l h. absurd (h refl))

-- 0 is the code of what is heard, and of nothing else
pub zero-heard : (r : Reception) → (cause_in r ≡ 0) ↔ (is_heard r ≡ true)
unfolding cause_in is_heard
zero-heard (Ok v) = ((λ h. refl), (λ h. refl))
zero-heard (Err ControllerLoss) = ((λ h. absurd (omega arith)), (λ h. absurd (true≢false (sym h))))
zero-heard (Err WrongKind) = ((λ h. absurd (omega arith)), (λ h. absurd (true≢false (sym h))))
zero-heard (Err StrayBits) = ((λ h. absurd (omega arith)), (λ h. absurd (true≢false (sym h))))

-- ---- a read

module _ (n : ℕ) (read : List ℕ) (controller j : ℕ) where
  pub of-read : j < n → n ≤ 16 → get_or (causes_of n read controller) j 0 ≡ cause_of n (bit controller j) (word_at read j)
  unfolding causes_of
  of-read h small = array_at n _ j h small

  pub above : n ≤ j → j < 16 → get_or (causes_of n read controller) j 0 ≡ 0
  unfolding causes_of
  above h l = array-above n _ j h l

  pub hears : j < n → n ≤ 16 → (get_or (causes_of n read controller) j 0 ≡ 0) ↔ (bit (reading_of n read controller).heard j ≡ true)
  unfolding entry_of
  hears h small =
      let e = of-read h small in
      let g = reading-heard n read controller j h in
      let z = zero-heard (reception_of n (bit controller j) (word_at read j)) in
      ((λ c. g ∙ z.0 (sym e ∙ c)), (λ c. e ∙ z.1 (sym g ∙ c)))

-- every entry is a code
pub codes-small : (n : ℕ) (read : List ℕ) (controller k : ℕ) → n ≤ 16 → k < 16 → get_or (causes_of n read controller) k 0 ≤ 3
codes-small n read controller k small h =
    ⊎_elim (λ (t : ltb k n ≡ true). omega (arith, of-read n read controller k (ltb-true k n t) small, codes n (bit controller k) (word_at read k)))
    (λ (f : ltb k n ≡ false). omega (arith, above n read controller k (ltb-false k n f) h))
    (which (ltb k n))

pub causes : Causes
causes = record {
  loss = loss;
  kind = kind;
  stray = stray;
  heard = heard;
  codes = codes;
  row = row;
  no_row = no_row;
  of-read = of-read;
  hears = hears;
  above = above;
}

-- the cases, each computed
pub cases-right : CasesRight
unfolding reception_of cause_in heard_row causes_of array bit word_at bytes_of
cases-right = (refl, refl)
