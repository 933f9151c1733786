-- Flags that a step raises and a write clears, and the interrupt that they turn on.
use mathlib.Core.Path.{◌≡◌, refl, ap, ◌∙◌}
use mathlib.Core.Bool.{Bool, true, false, not, ◌&&◌, ◌||◌}
use mathlib.Core.List.{List}
use Prim.Native.Nat.{ℕ, ◌+◌, ◌*◌, ◌^◌, ◌≤◌, ◌<◌}
use native.Mathlib.Omega.{arith}
use Rattle.words.specs.Word.{word_at}
use Rattle.words.specs.Bits.{bit, b2n}
use Rattle.words.proofs.Truth.{and_l, and_r, and-true, or_l}
use Rattle.words.proofs.BitLaws.{b2n-le, bit-pack, bit_high}
use Rattle.words.proofs.CountLaws.{any-intro, any-witness}
use Rattle.page.specs.Flags.{joined, cleared, shared}
use Rattle.page.specs.Page.{raised, interrupt_on}

-- what a step adds to the flags, in its two bits
abbrev causes : Bool → Bool → ℕ
causes changed charged = b2n changed + b2n charged * 2

raised-bit : (flags j : ℕ) (changed charged : Bool) → j < 32 → bit (raised flags changed charged) j ≡ bit flags j || bit (causes changed charged) j
unfolding raised joined
raised-bit flags j changed charged h = bit-pack 32 (λ i. bit flags i || bit (causes changed charged) i) j h

-- a flag stays where flags are raised
pub raised-kept : (flags j : ℕ) (changed charged : Bool) → j < 32 → bit flags j ≡ true → bit (raised flags changed charged) j ≡ true
raised-kept flags j changed charged h t = raised-bit flags j changed charged h ∙ or_l (bit flags j) _ t

change-bit : (changed charged : Bool) → bit (causes changed charged) 0 ≡ changed
unfolding bit
change-bit true true = refl
change-bit true false = refl
change-bit false true = refl
change-bit false false = refl

charge-bit : (changed charged : Bool) → bit (causes changed charged) 1 ≡ charged
unfolding bit
charge-bit true true = refl
charge-bit true false = refl
charge-bit false true = refl
charge-bit false false = refl

-- bit 0, bit 1, and the bits above them
pub raised-0 : (flags : ℕ) (changed charged : Bool) → bit (raised flags changed charged) 0 ≡ bit flags 0 || changed
raised-0 flags changed charged = raised-bit flags 0 changed charged (omega arith) ∙ ap (λ (b : Bool). bit flags 0 || b) (change-bit changed charged)

pub raised-1 : (flags : ℕ) (changed charged : Bool) → bit (raised flags changed charged) 1 ≡ bit flags 1 || charged
raised-1 flags changed charged = raised-bit flags 1 changed charged (omega arith) ∙ ap (λ (b : Bool). bit flags 1 || b) (charge-bit changed charged)

pub raised-above : (flags j : ℕ) (changed charged : Bool) → 2 ≤ j → j < 32 → bit (raised flags changed charged) j ≡ bit flags j
raised-above flags j changed charged h l =
    let small : causes changed charged < 2 ^ 2 = omega (arith, b2n-le changed, b2n-le charged) in
    raised-bit flags j changed charged l ∙ ap (λ (b : Bool). bit flags j || b) (bit_high (causes changed charged) 2 j small h) ∙ or-none (bit flags j)
  where
    or-none : (b : Bool) → b || false ≡ b
    or-none true = refl
    or-none false = refl

-- a write clears what it names
pub cleared-bit : (flags value j : ℕ) → j < 32 → bit (cleared flags value) j ≡ bit flags j && not (bit value j)
unfolding cleared
cleared-bit flags value j h = bit-pack 32 (λ i. bit flags i && not (bit value i)) j h

-- a flag that is not named stays
pub cleared-kept : (flags value j : ℕ) → j < 32 → bit value j ≡ false → bit flags j ≡ true → bit (cleared flags value) j ≡ true
cleared-kept flags value j h f t = cleared-bit flags value j h ∙ and-true (bit flags j) (not (bit value j)) t (ap not f)

-- a flag that is set and enabled turns the interrupt on
pub turns-on : (page : List ℕ) (j : ℕ) → j < 32 → bit (word_at page 2) j ≡ true → bit (word_at page 3) j ≡ true → interrupt_on page ≡ true
unfolding interrupt_on shared
turns-on page j h t u = any-intro 32 (λ i. bit (word_at page 2) i && bit (word_at page 3) i) j h (and-true (bit (word_at page 2) j) _ t u)

-- and only such a flag does
pub on-by : (page : List ℕ) → interrupt_on page ≡ true → (j : ℕ) × (j < 32) × (bit (word_at page 2) j ≡ true) × (bit (word_at page 3) j ≡ true)
unfolding interrupt_on shared
on-by page t =
    let (j, h, e) = any-witness 32 (λ i. bit (word_at page 2) i && bit (word_at page 3) i) t in
    (j, h, and_l (bit (word_at page 2) j) _ e, and_r (bit (word_at page 2) j) _ e)
