-- Two sets of more than half of all n share a sender; so at most one value of a module, and one view, is carried by more than half.
use mathlib.Core.Path.{◌≡◌, refl, sym, ap, ap₂, ◌∙◌, subst}
use Rattle.std.proofs.Common.{Option, Some, None, if◌then◌else◌}
use Rattle.std.specs.Bool.{then_some}
use mathlib.Core.Bool.{Bool, true, false, not, ◌&&◌, ◌||◌, beq}
use mathlib.Core.Logic.{⊎_elim}
use mathlib.Core.List.{List}
use Prim.Native.Nat.{ℕ, ◌+◌, ◌*◌, ◌%◌, ◌^◌, ◌<◌, ◌≤◌}
use native.Mathlib.Omega.{arith}
use native.Mathlib.Nat.{mod-lt}
use lib.ListN.{get_or}
use lib.Dec.{eqb}
use lib.Pow.{pow_pos}
use borrow.Author.Tests.{eqb-true, ne_eqb, ltb-true, lt-ltb, le-ltb}
use Rattle.words.specs.Bits.{bit, pack}
use Rattle.words.specs.Count.{count, any, all}
use Rattle.words.proofs.Truth.{which, and-true, or_cases, or_l, or_r, clash, beq-refl}
use Rattle.words.proofs.BitLaws.{bit-pack, bit-ext, bit_high, bit-mod, pack-lt}
use Rattle.words.proofs.CountLaws.{any-witness, any_none, count-mono, count-ext, count-le, count-split, all-at, all-intro}
use Rattle.views.specs.ViewWord.{view_word_heard, view_entry}
use Rattle.views.specs.Adoption.{is_there, carriers, most_of, adoptable, adopted_from}
use Rattle.views.specs.AdoptionMeans.{Carried, AdoptionMeans}
use Rattle.views.proofs.ViewWordLaws.{entry-says}

-- ---- counting

-- two sets that share no sender have together at most n
disjoint-le : (n : ℕ) (p q : ℕ → Bool) → ((l : ℕ) → l < n → p l && q l ≡ false) → count n p + count n q ≤ n
disjoint-le n p q d =
    let a : count n (λ l. (p l || q l) && p l) + count n (λ l. (p l || q l) && not (p l)) ≡ count n (λ l. p l || q l) = count-split n (λ l. p l || q l) p in
    let b : count n p ≤ count n (λ l. (p l || q l) && p l) = count-mono n _ _ (λ l h t. and-true (p l || q l) (p l) (or_l (p l) (q l) t) t) in
    let c : count n q ≤ count n (λ l. (p l || q l) && not (p l)) =
    count-mono n _ _ (λ l h t. and-true (p l || q l) (not (p l)) (or_r (p l) (q l) t) (apart (p l) (q l) (d l h) t))
    in
    let e : count n (λ l. p l || q l) ≤ n = count-le n _ in
    omega arith
  where
    apart : (a b : Bool) → a && b ≡ false → b ≡ true → not a ≡ true
    apart true b f t = clash b t f
    apart false b f t = refl

-- two sets of more than half of n share a sender
pub common : (n : ℕ) (p q : ℕ → Bool) → n < 2 * count n p → n < 2 * count n q → (l : ℕ) × (l < n) × (p l && q l ≡ true)
common n p q hp hq =
    ⊎_elim (λ (t : any n (λ l. p l && q l) ≡ true). any-witness n (λ l. p l && q l) t)
    (λ (f : any n (λ l. p l && q l) ≡ false).
    let d = disjoint-le n p q (any_none n (λ l. p l && q l) f) in
    absurd (omega arith))
    (which (any n (λ l. p l && q l)))

-- the same of tests
pub common-most : (n : ℕ) (p q : ℕ → Bool) → most_of n (count n p) ≡ true → most_of n (count n q) ≡ true → (l : ℕ) × (l < n) × (p l && q l ≡ true)
common-most n p q hp hq = common n p q (ltb-true n (2 * count n p) hp) (ltb-true n (2 * count n q) hq)

-- ---- carriers

is_one : (b : Bool) → beq b true ≡ b
is_one true = refl
is_one false = refl

is_zero : (b : Bool) → beq b false ≡ not b
is_zero true = refl
is_zero false = refl

module _ (n : ℕ) (views : List ℕ) (j : ℕ) where
  -- each sender whose view word is there carries one of the two values
  pub carriers-both : carriers n views j true + carriers n views j false ≡ count n (λ l. is_there (get_or views l 0))
  unfolding carriers
  carriers-both =
      ap₂ (λ (x y : ℕ). x + y)
      (count-ext n _ _ (λ l h. ap (λ (b : Bool). is_there (get_or views l 0) && b) (is_one (bit (get_or views l 0) j))))
      (count-ext n _ _ (λ l h. ap (λ (b : Bool). is_there (get_or views l 0) && b) (is_zero (bit (get_or views l 0) j))))
      ∙ count-split n (λ l. is_there (get_or views l 0)) (λ l. bit (get_or views l 0) j)

  -- a missing word has no bits
  bit-there : (w : ℕ) → bit w j ≡ is_there w && beq (bit w j) true
  bit-there w = go (eqb w 0) refl
    where
      go : (b : Bool) → eqb w 0 ≡ b → bit w j ≡ not b && beq (bit w j) true
      go true t = bit_high w 0 j (omega (arith, eqb-true w 0 t)) (omega arith)
      go false f = sym (is_one (bit w j))

  pub carriers-ones : count n (λ l. bit (get_or views l 0) j) ≡ carriers n views j true
  unfolding carriers
  carriers-ones = count-ext n _ _ (λ l h. bit-there (get_or views l 0))

  pub carriers-le : (value : Bool) → carriers n views j value ≤ n
  unfolding carriers
  carriers-le value = count-le n _

  one_value : carriers n views j true + carriers n views j false ≤ n
  one_value = omega (arith, carriers-both, count-le n (λ l. is_there (get_or views l 0)))

-- by the words that were sent and the controller bits with which they were read
pub carriers-heard : (n : ℕ) (views : List ℕ) (on : ℕ → Bool) (sent : ℕ → ℕ) → ((l : ℕ) → l < n → get_or views l 0 ≡ view_entry n (on l) (sent l))
    → (j : ℕ) (value : Bool) → carriers n views j value ≡ count n (λ l. (on l && view_word_heard n (sent l)) && beq (bit (sent l) j) value)
unfolding carriers
carriers-heard n views on sent e j value =
    count-ext n _ _
    (λ l h. ap (λ (w : ℕ). is_there w && beq (bit w j) value) (e l h) ∙ entry-says n (on l) (sent l) (λ w. beq (bit w j) value))

-- ---- what is adopted

pub carried : (n : ℕ) (views : List ℕ) → adoptable n views ≡ true → Carried n views (adopted_from n views)
unfolding adoptable adopted_from
carried n views a j h =
    let e : bit (pack n (λ j. most_of n (carriers n views j true))) j ≡ most_of n (carriers n views j true) = bit-pack n _ j h in
    ⊎_elim (λ (t : most_of n (carriers n views j true) ≡ true). rw (e, t) (ltb-true n (2 * carriers n views j true) t))
    (λ (f : most_of n (carriers n views j true) ≡ false).
    rw (e, f)
    (⊎_elim (λ (t : most_of n (carriers n views j true) ≡ true). clash _ t f)
    (λ (t : most_of n (carriers n views j false) ≡ true). ltb-true n (2 * carriers n views j false) t)
    (or_cases (most_of n (carriers n views j true)) (most_of n (carriers n views j false)) (all-at n _ a j h))))
    (which (most_of n (carriers n views j true)))

pub adopted : (n : ℕ) (views : List ℕ) (v : ℕ) → v < 2 ^ n → Carried n views v → (adoptable n views ≡ true) × (adopted_from n views ≡ v)
unfolding adoptable adopted_from
adopted n views v hv c = (
  all-intro n _ (λ j h. decided j (bit v j) (c j h)),
  bit-ext n _ v (pack-lt n _) hv (λ j h. bit-pack n _ j h ∙ value j (bit v j) (c j h)),
)
  where
    decided : (j : ℕ) (b : Bool) → n < 2 * carriers n views j b → most_of n (carriers n views j true) || most_of n (carriers n views j false) ≡ true
    decided j true h = or_l (most_of n (carriers n views j true)) _ (lt-ltb n (2 * carriers n views j true) h)
    decided j false h = or_r (most_of n (carriers n views j true)) _ (lt-ltb n (2 * carriers n views j false) h)

    value : (j : ℕ) (b : Bool) → n < 2 * carriers n views j b → most_of n (carriers n views j true) ≡ b
    value j true h = lt-ltb n (2 * carriers n views j true) h
    value j false h = le-ltb n (2 * carriers n views j true) (omega (arith, one_value n views j))

pub adopted-lt : (n : ℕ) (views : List ℕ) → adopted_from n views < 2 ^ n
unfolding adopted_from
adopted-lt n views = pack-lt n _

pub adoption-means : AdoptionMeans
adoption-means = record { carried = carried; adopted = adopted; common = common }

-- what more than half of all n senders send is adopted
module _ (n : ℕ) (views : List ℕ) (w : ℕ) (some : w ≡ 0 → ⊥) (most : n < 2 * count n (λ l. eqb (get_or views l 0) w)) where
  same-carry : (j : ℕ) → count n (λ l. eqb (get_or views l 0) w) ≤ carriers n views j (bit w j)
  unfolding carriers
  same-carry j =
      count-mono n _ _
      (λ l h t. subst (λ (x : ℕ). is_there x && beq (bit x j) (bit w j) ≡ true) (sym (eqb-true (get_or views l 0) w t))
      (and-true (is_there w) _ (ap not (ne_eqb w 0 some)) (beq-refl (bit w j))))

  pub same-adopted : (adoptable n views ≡ true) × (adopted_from n views ≡ w % 2 ^ n)
  same-adopted =
      adopted n views (w % 2 ^ n) (mod-lt w (pow_pos n))
      (λ j h. subst (λ (b : Bool). n < 2 * carriers n views j b) (sym (bit-mod n w j h)) (omega (arith, same-carry j)))

-- what is decided is so by the first n entries alone
module _ (n : ℕ) (views others : List ℕ) (same : (l : ℕ) → l < n → get_or views l 0 ≡ get_or others l 0) where
  carriers-ext : (j : ℕ) (value : Bool) → carriers n views j value ≡ carriers n others j value
  unfolding carriers
  carriers-ext j value = count-ext n _ _ (λ l h. ap (λ (w : ℕ). is_there w && beq (bit w j) value) (same l h))

  pub adoptable-ext : adoptable n views ≡ adoptable n others
  unfolding adoptable
  adoptable-ext = (λ i. all n (λ j. most_of n (carriers-ext j true i) || most_of n (carriers-ext j false i)))

  pub adopted-ext : adopted_from n views ≡ adopted_from n others
  unfolding adopted_from
  adopted-ext = (λ i. pack n (λ j. most_of n (carriers-ext j true i)))

-- ---- as the code counts

pub count-end : {c j n : ℕ} (p : ℕ → Bool) → j ≡ n → c ≡ count j p → c ≡ count n p
count-end p e h = rw e at h

-- the zeros are those that are there less the ones
pub zeros_by : {there one zero : ℕ} (n : ℕ) (views : List ℕ) (j : ℕ) → there ≡ count n (λ l. is_there (get_or views l 0)) → one ≡ carriers n views j true
    → zero + one ≡ there → zero ≡ carriers n views j false
zeros_by n views j t o z = omega (arith, carriers-both n views j)

pub ones-le : {there one : ℕ} (n : ℕ) (views : List ℕ) (j : ℕ) → there ≡ count n (λ l. is_there (get_or views l 0)) → one ≡ carriers n views j true → one ≤ there
ones-le n views j t o = omega (arith, carriers-both n views j)

-- a view that is handed on if it is decided
some-if : {A : Type 0} (b : Bool) (x : A) → then_some b x ≡ (if b then Some x else None)
some-if true x = refl
some-if false x = refl

pub decided-by : {A : Type 0} {d e : Bool} {x y : A} {r : Option A} → d ≡ e → x ≡ y → r ≡ then_some d x → r ≡ (if e then Some y else None)
decided-by {d = d} {x = x} p q h = h ∙ some-if d x ∙ (λ i. if p i then Some (q i) else None)

-- what one word decides that more than half are
pub same_by : {size : ℕ} (n : ℕ) (views : List ℕ) (word : ℕ) → (word ≡ 0 → ⊥) × (n < 2 * count n (λ m. eqb (get_or views m 0) word)) → size ≡ 2 ^ n
    → Some (word % size) ≡ (if adoptable n views then Some (adopted_from n views) else None)
same_by n views word (some, most) e =
    let (d, v) = same-adopted n views word some most in
    decided-by (sym d) (ap (λ (s : ℕ). word % s) e ∙ sym v) refl
