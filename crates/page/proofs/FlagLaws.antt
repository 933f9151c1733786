-- Laws of flags: what the machine's operations on words do to each bit.
use mathlib.Core.Path.{◌≡◌, refl, ap, ◌∙◌, sym}
use mathlib.Core.Bool.{Bool, true, false, not, ◌&&◌, ◌||◌}
use mathlib.Core.Logic.{⊎_elim}
use Prim.Native.Nat.{ℕ, zero, suc, ◌+◌, ◌-◌, ◌*◌, ◌/◌, ◌%◌, ◌^◌, ◌<◌, ◌≤◌}
use native.Mathlib.Omega.{arith}
use native.Mathlib.Nat.{pow-suc}
use lib.Dec.{eqb, ltb}
use lib.Bits.{bit_and, bit_or, and_lt, or_lt, or_shr, or_mod}
use lib.Pow.{pow_pos}
use borrow.Author.Tests.{eq-eqb, ne_eqb, ltb-true, ltb-false}
use Rattle.words.specs.Bits.{bit, b2n, pack, full}
use Rattle.words.specs.Count.{any}
use Rattle.words.proofs.Truth.{clash, which, and_l, or-false-l, or-false-r, iff-eq}
use Rattle.words.proofs.BitLaws.{bit-pack, bit_high, pack-ext, pack-own}
use Rattle.words.proofs.CountLaws.{any-intro, any-witness}
use Rattle.words.proofs.MaskLaws.{bit-and}
use Rattle.page.specs.Flags.{joined, cleared, shared}
use Rattle.page.specs.Page.{somebody_charged}

-- ---- a bit of a disjunction

or-one : (x y : ℕ) → x < 2 → y < 2 → eqb (bit_or x y) 1 ≡ eqb x 1 || eqb y 1
or-one zero zero h k = refl
or-one zero (suc zero) h k = refl
or-one (suc zero) zero h k = refl
or-one (suc zero) (suc zero) h k = refl
or-one zero (suc (suc y)) h k = absurd (omega arith)
or-one (suc zero) (suc (suc y)) h k = absurd (omega arith)
or-one (suc (suc x)) y h k = absurd (omega arith)

bit-or : (a b h : ℕ) → bit (bit_or a b) h ≡ bit a h || bit b h
unfolding bit
bit-or a b h =
    ap (λ (x : ℕ). eqb (x % 2) 1) (or_shr a b h)
    ∙ ap (λ (x : ℕ). eqb x 1) (or_mod (a / 2 ^ h) (b / 2 ^ h) 1)
    ∙ or-one (a / 2 ^ h % 2) (b / 2 ^ h % 2) (omega arith) (omega arith)

-- ---- a bit of a complement

both_ways : (b : Bool) (p : ℕ) → b2n b * p + b2n (not b) * p ≡ p
both_ways true p = omega arith
both_ways false p = omega arith

pack-not : (n : ℕ) (f : ℕ → Bool) → pack n f + pack n (λ j. not (f j)) ≡ full n
unfolding pack
pack-not zero f = refl
pack-not (suc n) f = rw pow-suc (omega (arith, pack-not n f, both_ways (f n) (2 ^ n), pow_pos n))

not-bits : (v : ℕ) → v < 2 ^ 32 → 2 ^ 32 - 1 - v ≡ pack 32 (λ j. not (bit v j))
not-bits v h =
    let o = pack-own 32 v h in
    let s = pack-not 32 (bit v) in
    omega arith

bit_not : (v j : ℕ) → v < 2 ^ 32 → j < 32 → bit (2 ^ 32 - 1 - v) j ≡ not (bit v j)
bit_not v j h l = ap (λ (x : ℕ). bit x j) (not-bits v h) ∙ bit-pack 32 (λ i. not (bit v i)) j l

-- ---- whole words

-- a number is its bits
by_bits : (u : ℕ) (f : ℕ → Bool) → u < 2 ^ 32 → ((j : ℕ) → j < 32 → bit u j ≡ f j) → u ≡ pack 32 f
by_bits u f h e = sym (pack-own 32 u h) ∙ pack-ext 32 (bit u) f e

and-bits : (u v : ℕ) → u < 2 ^ 32 → v < 2 ^ 32 → bit_and u v ≡ pack 32 (λ j. bit u j && bit v j)
and-bits u v h k = by_bits (bit_and u v) _ (and_lt 32 u v h k) (λ j l. bit-and u v j)

pub or-joined : (u v : ℕ) → u < 2 ^ 32 → v < 2 ^ 32 → bit_or u v ≡ joined u v
unfolding joined
or-joined u v h k = by_bits (bit_or u v) _ (or_lt 32 u v h k) (λ j l. bit-or u v j)

pub and_cleared : (u v : ℕ) → u < 2 ^ 32 → v < 2 ^ 32 → bit_and u (2 ^ 32 - 1 - v) ≡ cleared u v
unfolding cleared
and_cleared u v h k =
    and-bits u (2 ^ 32 - 1 - v) h (omega arith)
    ∙ pack-ext 32 (λ j. bit u j && bit (2 ^ 32 - 1 - v) j) (λ j. bit u j && not (bit v j))
    (λ j l. ap (λ (b : Bool). bit u j && b) (bit_not v j k l))

-- ---- a number that is not 0 has a set bit

pack-none : (n : ℕ) (f : ℕ → Bool) → any n f ≡ false → pack n f ≡ 0
unfolding pack any
pack-none zero f e = refl
pack-none (suc n) f e = rw (pack-none n f (or-false-l (any n f) (f n) e), or-false-r (any n f) (f n) e) (omega arith)

pack-some : (n : ℕ) (f : ℕ → Bool) → any n f ≡ true → pack n f ≡ 0 → ⊥
unfolding bit
pack-some n f e z =
    let (l, h, t) = any-witness n f e in
    let b : bit (pack n f) l ≡ true = bit-pack n f l h ∙ t in
    nothing l (ap (λ (x : ℕ). bit x l) (sym z) ∙ b)
  where
    nothing : (l : ℕ) → bit 0 l ≡ true → ⊥
    nothing l t = clash (bit 0 l) t (bit_high 0 0 l (omega arith) (omega arith))

pub any-bit : (n : ℕ) (f : ℕ → Bool) → not (eqb (pack n f) 0) ≡ any n f
any-bit n f =
    ⊎_elim
    (λ (t : any n f ≡ true). ap not (ne_eqb (pack n f) 0 (pack-some n f t)) ∙ sym t)
    (λ (e : any n f ≡ false). ap not (eq-eqb (pack n f) 0 (pack-none n f e)) ∙ sym e)
    (which (any n f))

pub and-shared : (u v : ℕ) → u < 2 ^ 32 → v < 2 ^ 32 → not (eqb (bit_and u v) 0) ≡ shared u v
unfolding shared
and-shared u v h k = ap (λ (x : ℕ). not (eqb x 0)) (and-bits u v h k) ∙ any-bit 32 (λ j. bit u j && bit v j)

-- ---- the modules in a view

-- a view of n modules has no bit at n or above
pub charged-any : (n view health : ℕ) → n ≤ 16 → view < 2 ^ n → not (eqb (cleared view health) 0) ≡ somebody_charged n view health
unfolding cleared somebody_charged
charged-any n view health l h =
    any-bit 32 p
    ∙ iff-eq (any 32 p) (any n p)
    (λ t. let (j, k, e) = any-witness 32 p t in
    any-intro n p j (inside j e) e)
    (λ t. let (j, k, e) = any-witness n p t in
    any-intro 32 p j (omega arith) e)
  where
    p : ℕ → Bool
    p j = bit view j && not (bit health j)

    inside : (j : ℕ) → p j ≡ true → j < n
    inside j e =
        ⊎_elim (λ (t : ltb j n ≡ true). ltb-true j n t)
        (λ (f : ltb j n ≡ false). clash (bit view j) (and_l (bit view j) _ e) (bit_high view n j h (ltb-false j n f)))
        (which (ltb j n))
