-- Laws of arrays of 16 doubles.
use mathlib.Core.Path.{◌≡◌, refl, ap, ◌∙◌, sym}
use mathlib.Core.Bool.{true, ◌&&◌, ◌||◌}
use mathlib.Core.List.{List}
use Prim.Native.Nat.{ℕ, ◌+◌, ◌<◌, ◌≤◌}
use native.Mathlib.Omega.{arith}
use native.Mathlib.Decide.{dec_lt}
use lib.Dec.{eqb, ltb}
use lib.ListN.{set, length, replicate, length-replicate, get_or-replicate}
use lib.Seq.{ext_get_or}
use lib.Ieee.{Float, nan, binary64, of_int, of_bits, to_bits}
use lib.Ieee.Bits.{of_bits-to_bits}
use borrow.Author.Tests.{lt-ltb, le-ltb, eq-eqb, eqb-true}
use Rattle.words.specs.Table.{updated}
use Rattle.words.proofs.Truth.{and_l, and_r, and-true, or_l, or_r}
use Rattle.words.proofs.CountLaws.{all-at, all-intro}
use Rattle.words.proofs.TableLaws.{updated-step, updated-length, updated-at, updated-above, updated-ext}
use Rattle.doubles.specs.Double.{double, is_double}
use Rattle.doubles.specs.Array.{entry, zeros, doubles, FilledDoubles, clear_doubles}
use Rattle.doubles.proofs.DoubleLaws.{holds, held}
use Rattle.doubles.proofs.Rounding.{zero_bits}
use Rattle.doubles.proofs.Whole.{double-fits}

-- an array of zeros, as a literal is
pub doubles-start : (f : ℕ → Float) → replicate 16 (of_bits binary64 0) ≡ doubles 0 f
unfolding doubles updated
doubles-start f = ap (replicate 16) zero_bits

-- a turn of a loop that fills an array
pub doubles-step : {l : List Float} {v : Float} (n : ℕ) (f : ℕ → Float) → l ≡ doubles n f → v ≡ f n → set l n v ≡ doubles (n + 1) f
unfolding doubles
doubles-step n f e h = updated-step n f zeros e h

-- and its end
pub doubles-end : {l : List Float} {j n : ℕ} (f : ℕ → Float) → j ≡ n → l ≡ doubles j f → l ≡ doubles n f
doubles-end f e h = rw e at h

zeros-length : length zeros ≡ 16
zeros-length = length-replicate {A = Float} 16 (double 0)

pub zeros-at : (i : ℕ) → i < 16 → entry zeros i ≡ double 0
zeros-at i h = get_or-replicate {A = Float} 16 i (double 0) nan h

pub doubles-length : (n : ℕ) (f : ℕ → Float) → length (doubles n f) ≡ 16
unfolding doubles
doubles-length n f = updated-length n f zeros ∙ zeros-length

pub doubles-at : (n : ℕ) (f : ℕ → Float) (i : ℕ) → i < n → n ≤ 16 → entry (doubles n f) i ≡ f i
unfolding doubles
doubles-at n f i h l = updated-at n f zeros i nan h (rw zeros-length l)

pub doubles-above : (n : ℕ) (f : ℕ → Float) (i : ℕ) → n ≤ i → i < 16 → entry (doubles n f) i ≡ double 0
unfolding doubles
doubles-above n f i h l = updated-above n f zeros i nan h ∙ zeros-at i l

pub doubles-ext : (n : ℕ) (f g : ℕ → Float) → ((i : ℕ) → i < n → f i ≡ g i) → doubles n f ≡ doubles n g
unfolding doubles
doubles-ext n f g h = updated-ext n f g zeros h

-- an array of 16 that has 0.0 from n on is made of its own entries
own : (n : ℕ) (a : List Float) → n ≤ 16 → length a ≡ 16 → ((i : ℕ) → n ≤ i → i < 16 → entry a i ≡ double 0) → FilledDoubles n a
own n a h e z = ext_get_or nan (doubles n (entry a)) a (doubles-length n _ ∙ sym e) (λ i k. go i (dec_lt i n) (rw doubles-length at k))
  where
    go : (i : ℕ) → Dec (i < n) → i < 16 → entry (doubles n (entry a)) i ≡ entry a i
    go i (yes p) k = doubles-at n (entry a) i p h
    go i (no p) k = doubles-above n (entry a) i (omega arith) k ∙ sym (z i (omega arith) k)

-- an array whose entries are all 0.0
pub doubles-zeros : (n : ℕ) (f : ℕ → Float) → n ≤ 16 → ((i : ℕ) → i < n → f i ≡ double 0) → doubles n f ≡ zeros
doubles-zeros n f h z =
    doubles-ext n f (entry zeros) (λ i l. z i l ∙ sym (zeros-at i (omega arith))) ∙ own n zeros h zeros-length (λ i l k. zeros-at i k)

-- ---- arrays of doubles that are 0.0 from n on, by their bits

zero_pattern : to_bits binary64 (double 0) ≡ 0
unfolding double of_int to_bits
zero_pattern = refl

by-pattern : (x : Float) → is_double x ≡ true → to_bits binary64 x ≡ 0 → x ≡ double 0
by-pattern x d e = sym (of_bits-to_bits binary64 x (held _ d)) ∙ ap (of_bits binary64) e ∙ zero_bits

module _ (n : ℕ) (a : List Float) (e : clear_doubles n a ≡ true) where
  clear-test : (i : ℕ) → i < 16 → is_double (entry a i) && (ltb i n || eqb (to_bits binary64 (entry a i)) 0) ≡ true
  unfolding clear_doubles
  clear-test i l = all-at 16 (λ j. is_double (entry a j) && (ltb j n || eqb (to_bits binary64 (entry a j)) 0)) e i l

  pub clear-doubles-are : (i : ℕ) → i < 16 → is_double (entry a i) ≡ true
  clear-doubles-are i l = and_l (is_double (entry a i)) _ (clear-test i l)

  pub clear-doubles-at : (i : ℕ) → n ≤ i → i < 16 → entry a i ≡ double 0
  clear-doubles-at i h l =
      let t = and_r (is_double (entry a i)) _ (clear-test i l) in
      by-pattern (entry a i) (clear-doubles-are i l) (eqb-true (to_bits binary64 (entry a i)) 0 (rw (le-ltb i n h) at t))

  pub doubles-own : n ≤ 16 → length a ≡ 16 → FilledDoubles n a
  doubles-own h w = own n a h w clear-doubles-at

pub clear-doubles-of : (n : ℕ) (a : List Float) → ((i : ℕ) → i < 16 → is_double (entry a i) ≡ true) → ((i : ℕ) → n ≤ i → i < 16 → entry a i ≡ double 0)
    → clear_doubles n a ≡ true
unfolding clear_doubles
clear-doubles-of n a d z =
    all-intro 16 (λ j. is_double (entry a j) && (ltb j n || eqb (to_bits binary64 (entry a j)) 0))
    (λ i l. and-true (is_double (entry a i)) _ (d i l) (go i (dec_lt i n) l))
  where
    go : (i : ℕ) → Dec (i < n) → i < 16 → ltb i n || eqb (to_bits binary64 (entry a i)) 0 ≡ true
    go i (yes p) l = or_l (ltb i n) _ (lt-ltb i n p)
    go i (no p) l = or_r (ltb i n) _ (eq-eqb _ 0 (ap (to_bits binary64) (z i (omega arith) l) ∙ zero_pattern))

nothing-double : {x : Float} → x ≡ double 0 → is_double x ≡ true
nothing-double e = ap is_double e ∙ holds _ (double-fits 0)

pub clear-zeros : (n : ℕ) → clear_doubles n zeros ≡ true
clear-zeros n = clear-doubles-of n zeros (λ i l. nothing-double (zeros-at i l)) (λ i h l. zeros-at i l)

pub clear-doubles : (n : ℕ) (f : ℕ → Float) → n ≤ 16 → ((i : ℕ) → i < n → is_double (f i) ≡ true) → clear_doubles n (doubles n f) ≡ true
clear-doubles n f h d = clear-doubles-of n (doubles n f) (λ i l. go i (dec_lt i n) l) (doubles-above n f)
  where
    go : (i : ℕ) → Dec (i < n) → i < 16 → is_double (entry (doubles n f) i) ≡ true
    go i (yes p) l = ap is_double (doubles-at n f i p h) ∙ d i p
    go i (no p) l = nothing-double (doubles-above n f i (omega arith) l)

-- an array of which none is in use
pub none-doubles : (f : ℕ → Float) → doubles 0 f ≡ zeros
unfolding doubles updated
none-doubles f = refl
