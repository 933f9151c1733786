-- The fault limit of a renumbered session is that of the session.
use Prim.Native.Nat.{ℕ, ◌+◌, ◌<◌}
use mathlib.Core.Path.{◌≡◌, ap, ap₂, ◌∙◌}
use mathlib.Core.Bool.{Bool, true, false, not, ◌&&◌, ◌||◌, beq}
use lib.Dec.{eqb}
use borrow.Author.Tests.{eq-eqb}
use Rattle.words.specs.Count.{count, any}
use Rattle.words.proofs.Truth.{and-false-l, and_false_r, or_l}
use Rattle.words.proofs.CountLaws.{any-empty, count_none}
use Rattle.agreement.specs.Fault.{Round, Senders, differ, half, heard, senders, half_in, breaker_in, unheard_in, within, kept_over, limit}
use Rattle.renumbering.specs.Renumbering.{Renumbering, word_for}
use Rattle.renumbering.proofs.PermutationLaws.{count-renumbered, any-renumbered}
use Rattle.renumbering.proofs.WordForLaws.{word-eqb}

module _ (n : ℕ) (π : Renumbering n) where
  -- a round as it is heard, renumbered
  pub record RoundFor (r r' : Round) : Type 0 where
    pub hears : (i j : ℕ) → i < n → j < n → r'.hears i j ≡ r.hears (π.from i) (π.from j)
    pub word : (i j : ℕ) → i < n → j < n → r'.word i j ≡ word_for n π (r.word (π.from i) (π.from j))

  -- which senders are half heard and heard, renumbered
  record SendersFor (h h' : Senders) : Type 0 where
    half : (j : ℕ) → j < n → h'.half j ≡ h.half (π.from j)
    heard : (j : ℕ) → j < n → h'.heard j ≡ h.heard (π.from j)

  module _ (F F' : ℕ → Bool) (follow : (j : ℕ) → j < n → F' j ≡ F (π.from j)) where
    module _ (r r' : Round) (R : RoundFor r r') where
      differ-for : (i k j : ℕ) → i < n → k < n → j < n → differ r' i k j ≡ differ r (π.from i) (π.from k) (π.from j)
      unfolding differ
      differ-for i k j hi hk hj =
          let h = R.hears i j hi hj in
          let g = R.hears k j hk hj in
          let w = ap₂ eqb (R.word i j hi hj) (R.word k j hk hj) ∙ word-eqb n π _ _ in
          ap₂ (λ (x y : Bool). not (beq x y) || (x && y && not (eqb (r'.word i j) (r'.word k j)))) h g
          ∙ ap (λ (b : Bool). not (beq (r.hears (π.from i) (π.from j)) (r.hears (π.from k) (π.from j)))
          || (r.hears (π.from i) (π.from j) && r.hears (π.from k) (π.from j) && not b)) w

      half-for : (j : ℕ) → j < n → half n F' r' j ≡ half n F r (π.from j)
      unfolding half
      half-for j hj =
          any-renumbered n π (λ i. F i && any n (λ k. F k && differ r i k (π.from j))) (λ i. F' i && any n (λ k. F' k && differ r' i k j))
          (λ i hi. ap₂ (λ (x y : Bool). x && y) (follow i hi)
          (any-renumbered n π (λ k. F k && differ r (π.from i) k (π.from j)) (λ k. F' k && differ r' i k j)
          (λ k hk. ap₂ (λ (x y : Bool). x && y) (follow k hk) (differ-for i k j hi hk hj))))

      heard-for : (j : ℕ) → j < n → heard n F' r' j ≡ heard n F r (π.from j)
      unfolding heard
      heard-for j hj =
          any-renumbered n π (λ i. F i && r.hears i (π.from j)) (λ i. F' i && r'.hears i j)
          (λ i hi. ap₂ (λ (x y : Bool). x && y) (follow i hi) (R.hears i j hi hj))

      senders-for : SendersFor (senders n F r) (senders n F' r')
      senders-for = record { half = half-for; heard = heard-for }

    module _ (h h' g g' : Senders) (H : SendersFor h h') (G : SendersFor g g') where
      half_in-for : (j : ℕ) → j < n → half_in h' g' j ≡ half_in h g (π.from j)
      unfolding half_in
      half_in-for j l = ap₂ (λ (x y : Bool). x || y) (H.half j l) (G.half j l)

      breaker_in-for : (j : ℕ) → j < n → breaker_in F' h' g' j ≡ breaker_in F h g (π.from j)
      unfolding breaker_in
      breaker_in-for j l =
          ap₂ (λ (x y : Bool). not x && y) (half_in-for j l)
          (ap₂ (λ (x y : Bool). not x && y) (follow j l) (ap₂ (λ (x y : Bool). x || y) (H.heard j l) (G.heard j l)))

      unheard_in-for : (j : ℕ) → j < n → unheard_in F' h' g' j ≡ unheard_in F h g (π.from j)
      unfolding unheard_in
      unheard_in-for j l =
          ap₂ (λ (x y : Bool). not x && y) (half_in-for j l)
          (ap₂ (λ (x y : Bool). not x && y) (breaker_in-for j l) (ap₂ (λ (x y : Bool). not x || not y) (H.heard j l) (G.heard j l)))

      over-for : (seen seen' : ℕ → Bool) → ((j : ℕ) → j < n → seen' j ≡ seen (π.from j)) → kept_over n F' seen' h' g' ≡ kept_over n F seen h g
      unfolding kept_over
      over-for seen seen' see =
          let m = count-renumbered n π seen seen' see in
          let a = count-renumbered n π (half_in h g) (half_in h' g') half_in-for in
          let s = count-renumbered n π (λ j. seen j && breaker_in F h g j) (λ j. seen' j && breaker_in F' h' g' j)
          (λ j l. ap₂ (λ (x y : Bool). x && y) (see j l) (breaker_in-for j l)) in
          let b = count-renumbered n π (λ j. seen j && unheard_in F h g j) (λ j. seen' j && unheard_in F' h' g' j)
          (λ j l. ap₂ (λ (x y : Bool). x && y) (see j l) (unheard_in-for j l)) in
          ap₂ (λ (x y : ℕ). within x y (count n (λ j. seen' j && breaker_in F' h' g' j)) (count n (λ j. seen' j && unheard_in F' h' g' j))) m a
          ∙ ap₂ (λ (x y : ℕ). within (count n seen) (count n (half_in h g)) x y) s b

    pub limit-for : (r r' q q' : Round) → RoundFor r r' → RoundFor q q' → (seen seen' : ℕ → Bool)
        → ((j : ℕ) → j < n → seen' j ≡ seen (π.from j)) → limit n F' seen' r' q' ≡ limit n F seen r q
    unfolding limit
    limit-for r r' q q' R Q seen seen' see =
        over-for (senders n F r) (senders n F' r') (senders n F q) (senders n F' q') (senders-for r r' R) (senders-for q q' Q) seen seen' see

-- without rule-followers the limit is kept
pub no-followers : (n : ℕ) (F seen : ℕ → Bool) (r q : Round) → ((j : ℕ) → j < n → F j ≡ false) → limit n F seen r q ≡ true
unfolding limit kept_over within half heard half_in breaker_in
no-followers n F seen r q none =
    let quiet : (p : ℕ → Bool) → any n (λ i. F i && p i) ≡ false = λ p. any-empty n _ (λ i h. and-false-l (F i) _ (none i h)) in
    let h = senders n F r in
    let g = senders n F q in
    let none-half : (r : Round) (j : ℕ) → half n F r j ≡ false = λ r j. quiet (λ i. any n (λ k. F k && differ r i k j)) in
    let a : count n (half_in h g) ≡ 0 = count_none n _ (λ j l. ap₂ (λ (x y : Bool). x || y) (none-half r j) (none-half q j)) in
    let s : count n (λ j. seen j && breaker_in F h g j) ≡ 0
    = count_none n _ (λ j l. and_false_r (seen j) _ (and_false_r (not (half_in h g j)) _ (and_false_r (not (F j)) _
    (ap₂ (λ (x y : Bool). x || y) (quiet (λ i. r.hears i j)) (quiet (λ i. q.hears i j)))))) in
    or_l _ _ (eq-eqb _ 0 (ap₂ (λ (x y : ℕ). x + y) a s))
