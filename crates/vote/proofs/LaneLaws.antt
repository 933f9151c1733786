-- Sixteen counts in four lanes: a turn of the counting loop, how a count is read back, and that the votes by these counts are the health vector.
use mathlib.Core.Path.{◌≡◌, refl, ap, ◌∙◌, sym}
use mathlib.Core.Logic.{⊎_elim}
use mathlib.Core.Bool.{Bool, true, false, cond, not, ◌&&◌, and_comm}
use mathlib.Core.List.{List, [], ◌∷◌}
use Prim.Native.Nat.{ℕ, zero, suc, ◌+◌, ◌*◌, ◌/◌, ◌%◌, ◌^◌, ◌<◌, ◌≤◌}
use native.Mathlib.Omega.{arith}
use native.Mathlib.Nat.{eq-or-lt_of_le, le_of_suc-le-suc}
use native.Mathlib.Decide.{dec_lt}
use lib.ListN.{get_or}
use lib.Dec.{eqb, lit<}
use borrow.Author.Tests.{eq-eqb, ne_eqb, eqb-true}
use Rattle.words.specs.Bits.{bit, b2n, pack}
use Rattle.words.specs.Count.{count}
use Rattle.words.proofs.Truth.{iff-eq, and_l}
use Rattle.words.proofs.BitLaws.{bit_high, pack-ext}
use Rattle.words.proofs.CountLaws.{count-more, count-mono, count-ext, count-le, count-all}
use Rattle.words.specs.Mask.{without}
use Rattle.vote.specs.Vote.{decision, tally, vote_of, health_of}
use Rattle.vote.specs.Lanes.{ballot_of, ones_on, lane_of, column_of, votes_but, tally_of}
use Rattle.vote.specs.declared.lanes.Tally.{Tally}
use Rattle.words.proofs.MaskLaws.{without-bit}

-- ---- a ballot

eqb-turn : (a b : ℕ) → eqb a b ≡ eqb b a
eqb-turn a b = iff-eq _ _ (λ t. eq-eqb b a (sym (eqb-true a b t))) (λ t. eq-eqb a b (sym (eqb-true b a t)))

-- bit j of the ballot of l: l is not j, its row is present, and it says 1
pub ballot-bit : (voters row l j : ℕ) → j < 32 → bit (ballot_of voters row l) j ≡ (not (eqb l j) && bit voters l) && bit row j
unfolding ballot_of
ballot-bit voters row l j h = go (bit voters l)
  where
    go : (b : Bool) → bit (cond b (without row l) 0) j ≡ (not (eqb l j) && b) && bit row j
    go true = without-bit row l j h ∙ rw (eqb-turn j l, and_comm (not (eqb l j)) true)
    go false = bit_high 0 0 j (lit< tt) (omega arith) ∙ rw (and_comm (not (eqb l j)) false)

-- ---- a turn of the loop that counts in lane k

pub lane-step : {acc row v : ℕ} (k l voters : ℕ) (rows : List ℕ) → k < 4 → acc ≡ lane_of k (ones_on l voters rows)
    → row ≡ ballot_of voters (get_or rows l 0) l → v ≡ lane_of k (λ j. b2n (bit row j))
    → acc + v ≡ lane_of k (ones_on (l + 1) voters rows)
unfolding lane_of ones_on
lane-step {acc} {row} {v} k l voters rows h e b q =
    omega (
      arith,
      e,
      q,
      more k (omega arith),
      more (k + 4) (omega arith),
      more (k + 8) (omega arith),
      more (k + 12) (omega arith),
    )
  where
    more : (j : ℕ) → j < 16 → count (l + 1) (λ i. (not (eqb i j) && bit voters i) && bit (get_or rows i 0) j)
        ≡ count l (λ i. (not (eqb i j) && bit voters i) && bit (get_or rows i 0) j) + b2n (bit row j)
    more j m = count-more l (λ i. (not (eqb i j) && bit voters i) && bit (get_or rows i 0) j)
        ∙ ap (λ (x : Bool). count l (λ i. (not (eqb i j) && bit voters i) && bit (get_or rows i 0) j) + b2n x)
        (sym (ap (λ (x : ℕ). bit x j) b ∙ ballot-bit voters (get_or rows l 0) l j (omega arith)))

-- what the loop has counted at its end
pub tally-by : {a b c d present : ℕ} (l n voters : ℕ) (rows : List ℕ) → l ≡ n
    → a ≡ lane_of 0 (ones_on l voters rows) → b ≡ lane_of 1 (ones_on l voters rows) → c ≡ lane_of 2 (ones_on l voters rows)
    → d ≡ lane_of 3 (ones_on l voters rows) → present ≡ count l (bit voters)
    → record { present = present; ones = a ∷ b ∷ c ∷ d ∷ [] } ≡ tally_of n voters rows
unfolding tally_of
tally-by l n voters rows e ha hb hc hd hp = rw (ha, hb, hc, hd, hp, e)

-- ---- a count read back

-- four numbers of four bits
module _ (a b c d : ℕ) (ha : a ≤ 15) (hb : b ≤ 15) (hc : c ≤ 15) (hd : d ≤ 15) where
  abbrev four : ℕ
  four = a + b * 2 ^ 4 + c * 2 ^ 8 + d * 2 ^ 12

  four0 : four / 2 ^ 0 % 16 ≡ a
  four0 = omega arith

  four1 : four / 2 ^ 4 % 16 ≡ b
  four1 = let e : four / 2 ^ 4 ≡ b + c * 2 ^ 4 + d * 2 ^ 8 = omega arith in
      rw e (omega arith)

  four2 : four / 2 ^ 8 % 16 ≡ c
  four2 = let e : four / 2 ^ 8 ≡ c + d * 2 ^ 4 = omega arith in
      rw e (omega arith)

  four3 : four / 2 ^ 12 % 16 ≡ d
  four3 = let e : four / 2 ^ 12 ≡ d = omega arith in
      rw e (omega arith)

-- a lane whose counts are at most 15
module _ (f : ℕ → ℕ) (small : (j : ℕ) → j < 16 → f j ≤ 15) (j : ℕ) (h : j < 16) where
  s0 : f (j % 4) ≤ 15
  s0 = small (j % 4) (omega arith)

  s1 : f (j % 4 + 4) ≤ 15
  s1 = small (j % 4 + 4) (omega arith)

  s2 : f (j % 4 + 8) ≤ 15
  s2 = small (j % 4 + 8) (omega arith)

  s3 : f (j % 4 + 12) ≤ 15
  s3 = small (j % 4 + 12) (omega arith)

  lane-at : (i : ℕ) → j / 4 ≡ i → i < 4 → lane_of (j % 4) f / 2 ^ (j / 4 * 4) % 16 ≡ f j
  unfolding lane_of
  lane-at zero q l =
      let e : j / 4 * 4 ≡ 0 = omega arith in
      let g : j % 4 ≡ j = omega arith in
      rw e (four0 _ _ _ _ s0 s1 s2 s3 ∙ ap f g)
  lane-at (suc zero) q l =
      let e : j / 4 * 4 ≡ 4 = omega arith in
      let g : j % 4 + 4 ≡ j = omega arith in
      rw e (four1 _ _ _ _ s0 s1 s2 s3 ∙ ap f g)
  lane-at (suc (suc zero)) q l =
      let e : j / 4 * 4 ≡ 8 = omega arith in
      let g : j % 4 + 8 ≡ j = omega arith in
      rw e (four2 _ _ _ _ s0 s1 s2 s3 ∙ ap f g)
  lane-at (suc (suc (suc zero))) q l =
      let e : j / 4 * 4 ≡ 12 = omega arith in
      let g : j % 4 + 12 ≡ j = omega arith in
      rw e (four3 _ _ _ _ s0 s1 s2 s3 ∙ ap f g)
  lane-at (suc (suc (suc (suc i)))) q l = absurd (omega arith)

lane-of : (f : ℕ → ℕ) (k : ℕ) → k < 4 → get_or (lane_of 0 f ∷ lane_of 1 f ∷ lane_of 2 f ∷ lane_of 3 f ∷ []) k 0 ≡ lane_of k f
lane-of f zero h = refl
lane-of f (suc zero) h = refl
lane-of f (suc (suc zero)) h = refl
lane-of f (suc (suc (suc zero))) h = refl
lane-of f (suc (suc (suc (suc k)))) h = absurd (omega arith)

pub column-at : (f : ℕ → ℕ) → ((j : ℕ) → j < 16 → f j ≤ 15) → (j : ℕ) → j < 16
    → column_of (lane_of 0 f ∷ lane_of 1 f ∷ lane_of 2 f ∷ lane_of 3 f ∷ []) j ≡ f j
unfolding column_of
column-at f small j h = rw (lane-of f (j % 4) (omega arith)) (lane-at f small j h (j / 4) refl (omega arith))

-- ---- one left out of a count

module _ (p : ℕ → Bool) (j : ℕ) where
  others-off : (n : ℕ) → n ≤ j → count n (λ l. not (eqb l j) && p l) ≡ count n p
  others-off n h = count-ext n (λ l. not (eqb l j) && p l) p (λ l k. rw (ne_eqb l j (λ (e : l ≡ j). omega arith)))

  pub count-others : (n : ℕ) → j < n → count n (λ l. not (eqb l j) && p l) + b2n (p j) ≡ count n p
  unfolding count
  count-others zero h = absurd (omega arith)
  count-others (suc n) h =
      ⊎_elim
      (λ (e : j ≡ n).
      omega (
        arith,
        others-off n (omega arith),
        ap (λ (t : Bool). b2n (not t && p n)) (eq-eqb n j (sym e)),
        ap (λ (i : ℕ). b2n (p i)) e,
      ))
      (λ (l : j < n).
      omega (arith, count-others n l, ap (λ (t : Bool). b2n (not t && p n)) (ne_eqb n j (λ (e : n ≡ j). omega arith))))
      (eq-or-lt_of_le (le_of_suc-le-suc h))

-- ---- votes by counts

module _ (n voters : ℕ) (rows : List ℕ) (small : n ≤ 16) where
  pub ones-le : (j : ℕ) → ones_on n voters rows j ≤ count n (λ l. not (eqb l j) && bit voters l)
  unfolding ones_on
  ones-le j = count-mono n _ _ (λ l h e. and_l (not (eqb l j) && bit voters l) _ e)

  votes-le : (j : ℕ) → j < n → count n (λ l. not (eqb l j) && bit voters l) ≤ 15
  votes-le j h =
      omega (
        arith,
        count-mono n (λ l. not (eqb l j) && bit voters l) (λ l. not (eqb l j) && true) (λ l k e. rw (and_l (not (eqb l j)) (bit voters l) e)),
        count-others (λ l. true) j n h,
        count-all n,
      )

  -- no count fills more than its four bits
  ones_small : (j : ℕ) → j < 16 → ones_on n voters rows j ≤ 15
  unfolding ones_on
  ones_small j h = go (dec_lt j n)
    where
      go : Dec (j < n) → ones_on n voters rows j ≤ 15
      go (yes l) = omega (arith, ones-le j, votes-le j l)
      go (no l) = omega (arith, count-le n (λ l. (not (eqb l j) && bit voters l) && bit (get_or rows l 0) j))

  module _ (t : Tally) (w : t ≡ tally_of n voters rows) where
    pub present-by : t.present ≡ count n (bit voters)
    unfolding tally_of
    present-by = ap (λ (x : Tally). x.present) w

    pub ones-by : (j : ℕ) → j < 16 → column_of t.ones j ≡ ones_on n voters rows j
    unfolding tally_of
    ones-by j h = ap (λ (x : Tally). column_of x.ones j) w ∙ column-at (ones_on n voters rows) ones_small j h

  module _ (t : Tally) (w : t ≡ tally_of n voters rows) (j : ℕ) (h : j < n) where
    ones-here : column_of t.ones j ≡ ones_on n voters rows j
    ones-here = ones-by t w j (omega arith)

    votes-by : votes_but t.present voters j ≡ count n (λ l. not (eqb l j) && bit voters l)
    votes-by = omega (arith, present-by t w, count-others (bit voters) j n h)

    pub ones-fit : column_of t.ones j ≤ votes_but t.present voters j
    ones-fit = omega (arith, ones-here, votes-by, ones-le j)

    pub votes-fit : votes_but t.present voters j ≤ 15
    votes-fit = omega (arith, votes-by, votes-le j h)

    pub own-counted : b2n (bit voters j) ≤ t.present
    own-counted = omega (arith, present-by t w, count-others (bit voters) j n h)

    vote-by : (own : ℕ) → decision (votes_but t.present voters j) (column_of t.ones j) (bit own j) ≡ vote_of n voters rows own j
    unfolding vote_of tally ones_on
    vote-by own = rw (ones-here, votes-by)

  -- the votes by the counts, packed, are the health vector
  pub health-by : (t : Tally) → t ≡ tally_of n voters rows → (own : ℕ)
      → pack n (λ j. decision (votes_but t.present voters j) (column_of t.ones j) (bit own j)) ≡ health_of n voters rows own
  unfolding health_of
  health-by t w own = pack-ext n _ (vote_of n voters rows own) (λ j h. vote-by t w j h own)
