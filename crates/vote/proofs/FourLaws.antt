-- Votes taken four at a time: counts, voters and own syndrome from the next four on are those shifted down.
use Prim.Native.Nat.{ℕ, zero, suc, ◌+◌, ◌-◌, ◌*◌, ◌/◌, ◌%◌, ◌^◌, ◌≤◌, ◌<◌}
use mathlib.Core.Path.{◌≡◌, refl, sym, ap, ap₂, ◌∙◌}
use mathlib.Core.Bool.{true, false, not, ◌&&◌}
use mathlib.Core.List.{List, [], ◌∷◌}
use mathlib.Core.Logic.{⊎_elim}
use native.Mathlib.Omega.{arith}
use native.Mathlib.Nat.{div-one}
use lib.ListN.{get_or}
use lib.Dec.{eqb, ltb}
use lib.Pow.{shr-shr}
use borrow.Author.Tests.{ltb-true, ltb-false}
use Rattle.words.specs.Bits.{bit, pack}
use Rattle.words.proofs.Truth.{which, and_r}
use Rattle.words.proofs.BitLaws.{pack-low, bit_high}
use Rattle.words.proofs.CountLaws.{count-le, count-mono}
use Rattle.vote.specs.Vote.{health_of}
use Rattle.vote.specs.Lanes.{column_of, decided_by, Countable, tally_of}
use Rattle.vote.specs.declared.lanes.Tally.{Tally}
use Rattle.vote.proofs.LaneLaws.{ones-fit, votes-fit, own-counted, health-by, ones-le, ones-by, present-by}

-- ---- vectors one after the other

bit-shift : (v a k : ℕ) → bit (v / 2 ^ a) k ≡ bit v (a + k)
unfolding bit
bit-shift v a k = ap (λ (x : ℕ). eqb (x % 2) 1) (shr-shr v a k)

-- ---- counts shifted down

abbrev pub shifted : List ℕ → ℕ → List ℕ
shifted lanes at = get_or lanes 0 0 / 2 ^ at ∷ get_or lanes 1 0 / 2 ^ at ∷ get_or lanes 2 0 / 2 ^ at ∷ get_or lanes 3 0 / 2 ^ at ∷ []

column-at-four : (lanes : List ℕ) (at k : ℕ) → at % 4 ≡ 0 → k < 4 → column_of lanes (at + k) ≡ get_or lanes k 0 / 2 ^ at % 16
unfolding column_of
column-at-four lanes at k e h =
    let lane : (at + k) % 4 ≡ k = omega arith in
    let place : (at + k) / 4 * 4 ≡ at = omega arith in
    ap₂ (λ (x y : ℕ). get_or lanes x 0 / 2 ^ y % 16) lane place

lane-shifted : (lanes : List ℕ) (at k : ℕ) → k < 4 → get_or (shifted lanes at) k 0 ≡ get_or lanes k 0 / 2 ^ at
lane-shifted lanes at zero h = refl
lane-shifted lanes at (suc zero) h = refl
lane-shifted lanes at (suc (suc zero)) h = refl
lane-shifted lanes at (suc (suc (suc zero))) h = refl
lane-shifted lanes at (suc (suc (suc (suc k)))) h = absurd (omega arith)

module _ (lanes : List ℕ) (voters at j : ℕ) (e : at % 4 ≡ 0) (h : j < 4) where
  column-shifted : column_of (shifted lanes at) j ≡ column_of lanes (at + j)
  column-shifted =
      let z : j ≡ 0 + j = omega arith in
      ap (column_of (shifted lanes at)) z
      ∙ column-at-four (shifted lanes at) 0 j refl h
      ∙ ap (λ (x : ℕ). x / 2 ^ 0 % 16) (lane-shifted lanes at j h)
      ∙ ap (λ (x : ℕ). x % 16) (div-one (get_or lanes j 0 / 2 ^ at))
      ∙ sym (column-at-four lanes at j e h)

  pub decided-shifted : (present own : ℕ)
      → decided_by present (shifted lanes at) (voters / 2 ^ at) (own / 2 ^ at) j ≡ decided_by present lanes voters own (at + j)
  unfolding decided_by
  decided-shifted present own = rw (bit-shift voters at j, bit-shift own at j, column-shifted)

  pub countable-shifted : (present : ℕ) → Countable present lanes voters (at + j) → Countable present (shifted lanes at) (voters / 2 ^ at) j
  countable-shifted present c = rw (bit-shift voters at j, column-shifted) c

-- ---- the counts of n rows, for sixteen modules

module _ (n voters : ℕ) (rows : List ℕ) (small : n ≤ 16) (known : voters < 2 ^ n) (t : Tally) (w : t ≡ tally_of n voters rows) where
  below : (j : ℕ) → j < n → Countable t.present t.ones voters j
  below j h = (own-counted n voters rows small t w j h, votes-fit n voters rows small t w j h, ones-fit n voters rows small t w j h)

  above : (j : ℕ) → n ≤ j → j < 16 → Countable t.present t.ones voters j
  above j h k =
      let z = bit_high voters n j known h in
      let p = present-by n voters rows small t w in
      let q = count-le n (bit voters) in
      let o = ones-by n voters rows small t w j k in
      let m = count-mono n (λ l. not (eqb l j) && bit voters l) (bit voters) (λ l g e. and_r (not (eqb l j)) (bit voters l) e) in
      rw z (omega arith, omega (arith, p, q), omega (arith, o, m, p, ones-le n voters rows small j))

  pub countable : (j : ℕ) → j < 16 → Countable t.present t.ones voters j
  countable j h =
      ⊎_elim (λ (y : ltb j n ≡ true). below j (ltb-true j n y)) (λ (f : ltb j n ≡ false). above j (ltb-false j n f) h) (which (ltb j n))

  -- the votes below n, by the counts, are the health vector
  pub health-cut : (own m : ℕ) → n ≤ m → pack m (decided_by t.present t.ones voters own) % 2 ^ n ≡ health_of n voters rows own
  unfolding decided_by
  health-cut own m h =
      let e : m ≡ n + (m - n) = omega arith in
      ap (λ (x : ℕ). pack x (decided_by t.present t.ones voters own) % 2 ^ n) e
      ∙ pack-low n (m - n) (decided_by t.present t.ones voters own)
      ∙ health-by n voters rows small t w own
