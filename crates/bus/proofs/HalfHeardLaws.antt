-- Each rule-follower's word of a sender compared with that of one rule-follower: that finds the senders that are half heard.
use Prim.Native.Nat.{ℕ, ◌+◌, ◌*◌, ◌/◌, ◌%◌, ◌<◌, ◌≤◌}
use mathlib.Core.Path.{◌≡◌, refl, sym, ap, ap₂, ◌∙◌}
use mathlib.Core.Bool.{Bool, true, false, cond, not, ◌&&◌, ◌||◌, beq}
use mathlib.Core.Logic.{⊎_elim, ◌≢◌}
use mathlib.Core.List.{List}
use native.Mathlib.Omega.{arith}
use lib.Dec.{eqb}
use lib.ListN.{get_or}
use borrow.Author.Tests.{eqb-true, eqb-false, ne_eqb, not-true}
use Rattle.words.specs.Bits.{pack}
use Rattle.words.specs.Count.{any}
use Rattle.words.proofs.Truth.{which, and_l, and_r, and-true, iff-eq}
use Rattle.words.proofs.BitLaws.{pack-ext}
use Rattle.words.proofs.CountLaws.{any-intro, any-witness, any-ext}
use Rattle.words.proofs.LowestLaws.{lowest-le}
use Rattle.words.proofs.TableLaws.{table_at}
use Rattle.rules.specs.Hearing.{bus_word, entry_of}
use Rattle.rules.proofs.ReceptionLaws.{heard-is, entry-heard}
use Rattle.agreement.specs.Fault.{follows_in, first_follower, differ, half, heard}
use Rattle.agreement.proofs.FaultLaws.{first-follower}
use Rattle.bus.specs.Bus.{bit_to, word_to, round_of}
use Rattle.bus.specs.Heard.{heard_word, heard_words, otherwise}
use Rattle.bus.specs.declared.Bus.{Bus}

-- ---- a heard word is not 0, so the words as heard tell who hears what

not-zero : (n : ℕ) (on : Bool) (w : ℕ) → (entry_of n on w).heard ≡ true → w ≢ 0
unfolding bus_word
not-zero n on w t z =
    let h = (heard-is n w (and_r on _ (sym (entry-heard n on w) ∙ t))).0 in
    omega arith

is-heard : (n : ℕ) (on : Bool) (w : ℕ) → (entry_of n on w).heard ≡ not (eqb (heard_word n on w) 0)
unfolding heard_word
is-heard n on w = go (entry_of n on w).heard (λ t. not-zero n on w t)
  where
    go : (b : Bool) → (b ≡ true → w ≢ 0) → b ≡ not (eqb (cond b w 0) 0)
    go true h = rw (ne_eqb w 0 (h refl))
    go false h = refl

differs-as : (n : ℕ) (on on' : Bool) (w w' : ℕ)
    → (not (beq (entry_of n on w).heard (entry_of n on' w').heard)
    || ((entry_of n on w).heard && (entry_of n on' w').heard && not (eqb w w')))
    ≡ not (eqb (heard_word n on w) (heard_word n on' w'))
unfolding heard_word
differs-as n on on' w w' = go (entry_of n on w).heard (entry_of n on' w').heard (λ t. not-zero n on w t) (λ t. not-zero n on' w' t)
  where
    go : (b b' : Bool) → (b ≡ true → w ≢ 0) → (b' ≡ true → w' ≢ 0)
        → (not (beq b b') || (b && b' && not (eqb w w'))) ≡ not (eqb (cond b w 0) (cond b' w' 0))
    go true true h h' = refl
    go true false h h' = rw (ne_eqb w 0 (h refl))
    go false true h h' = rw (ne_eqb 0 w' (λ e. h' refl (sym e)))
    go false false h h' = refl

module _ (n cast : ℕ) where
  abbrev first : ℕ
  first = first_follower n (follows_in cast)

  -- two rule-followers have other words exactly where one has another word than the first
  pairs : (key : ℕ → ℕ) → any n (λ i. follows_in cast i && any n (λ i'. follows_in cast i' && not (eqb (key i) (key i'))))
      ≡ any n (λ i. follows_in cast i && not (eqb (key i) (key first)))
  pairs key = iff-eq _ _ down up
    where
      other : (i f : ℕ) → i < n → follows_in cast i ≡ true → not (eqb (key i) (key f)) ≡ true → any n (λ k. follows_in cast k && not (eqb (key k) (key f))) ≡ true
      other i f h t d = any-intro n _ i h (and-true _ _ t d)

      down : any n (λ i. follows_in cast i && any n (λ i'. follows_in cast i' && not (eqb (key i) (key i')))) ≡ true
          → any n (λ i. follows_in cast i && not (eqb (key i) (key first))) ≡ true
      down e =
          let f = first in
          let (i, h, t) = any-witness n _ e in
          let (i', h', t') = any-witness n _ (and_r (follows_in cast i) _ t) in
          let d = eqb-false (key i) (key i') (not-true _ (and_r (follows_in cast i') _ t')) in
          ⊎_elim
          (λ (q : eqb (key i) (key f) ≡ true).
          other i' f h' (and_l _ _ t')
          (ap not (ne_eqb (key i') (key f) (λ x. d (eqb-true (key i) (key f) q ∙ sym x)))))
          (λ (q : eqb (key i) (key f) ≡ false). other i f h (and_l _ _ t) (ap not q))
          (which (eqb (key i) (key f)))

      up : any n (λ i. follows_in cast i && not (eqb (key i) (key first))) ≡ true
          → any n (λ i. follows_in cast i && any n (λ i'. follows_in cast i' && not (eqb (key i) (key i')))) ≡ true
      up e =
          let (i, h, t) = any-witness n _ e in
          let f = first in
          let g = first-follower n (follows_in cast) i (record { below = h; true-to = and_l (follows_in cast i) _ t }) in
          let w = any-intro n (λ i'. follows_in cast i' && not (eqb (key i) (key i'))) f g.below (and-true _ _ g.true-to (and_r (follows_in cast i) _ t)) in
          any-intro n (λ k. follows_in cast k && any n (λ i'. follows_in cast i' && not (eqb (key k) (key i')))) i h (and-true _ _ (and_l (follows_in cast i) _ t) w)

-- ---- the code's masks are document 01's

pub first_small : (n cast : ℕ) → n ≤ 16 → first_follower n (follows_in cast) < 16
first_small n cast h = let l = lowest-le (follows_in cast) n in omega arith

module _ (n cast : ℕ) (b : Bus) (small : n ≤ 16) where
  -- receiver i's word of sender j as heard
  entry : (i j : ℕ) → i < 16 → j < 16 → get_or (heard_words n b.bits b.words) (i * 16 + j) 0 ≡ heard_word n (bit_to b i j) (word_to b i j)
  unfolding heard_words
  entry i j hi hj =
      let q : (i * 16 + j) / 16 ≡ i = omega arith in
      let r : (i * 16 + j) % 16 ≡ j = omega arith in
      table_at _ (i * 16 + j) (omega arith) ∙ rw (q, r) refl

  abbrev key : ℕ → ℕ → ℕ
  key i j = heard_word n (bit_to b i j) (word_to b i j)

  abbrev words : List ℕ
  words = heard_words n b.bits b.words

  half-as : (j : ℕ) → j < n → otherwise n cast words j (get_or words (first_follower n (follows_in cast) * 16 + j) 0) ≡ half n (follows_in cast) (round_of n b) j
  unfolding half differ round_of otherwise
  half-as j hj =
      any-ext n _ _
      (λ i hi.
      ap₂ (λ (x y : ℕ). follows_in cast i && not (eqb x y)) (entry i j (omega arith) (omega arith)) (entry (first_follower n (follows_in cast)) j (first_small n cast small) (omega arith)))
      ∙ sym (pairs n cast (λ i. key i j))
      ∙ any-ext n _ _
      (λ i hi.
      ap (λ (x : Bool). follows_in cast i && x)
      (any-ext n _ _
      (λ i' hi'.
      ap (λ (x : Bool). follows_in cast i' && x) (sym (differs-as n (bit_to b i j) (bit_to b i' j) (word_to b i j) (word_to b i' j))))))

  heard-as : (j : ℕ) → j < n → otherwise n cast words j 0 ≡ heard n (follows_in cast) (round_of n b) j
  unfolding heard round_of otherwise
  heard-as j hj =
      any-ext n _ _
      (λ i hi.
      ap (λ (x : Bool). follows_in cast i && x)
      (ap (λ (x : ℕ). not (eqb x 0)) (entry i j (omega arith) (omega arith)) ∙ sym (is-heard n (bit_to b i j) (word_to b i j))))

  -- the vectors of the senders, as the code finds them
  pub half-made : {heard_by : List ℕ} {i r : ℕ} → heard_by ≡ words → i ≡ first_follower n (follows_in cast)
      → r ≡ pack n (λ j. otherwise n cast heard_by j (get_or heard_by (i * 16 + j) 0)) → r ≡ pack n (half n (follows_in cast) (round_of n b))
  half-made e q h =
      h ∙ ap₂ (λ (l : List ℕ) (f : ℕ). pack n (λ j. otherwise n cast l j (get_or l (f * 16 + j) 0))) e q ∙ pack-ext n _ _ half-as

  pub heard-made : {heard_by : List ℕ} {r : ℕ} → heard_by ≡ words → r ≡ pack n (λ j. otherwise n cast heard_by j 0)
      → r ≡ pack n (heard n (follows_in cast) (round_of n b))
  heard-made e h = h ∙ ap (λ (l : List ℕ). pack n (λ j. otherwise n cast l j 0)) e ∙ pack-ext n _ _ heard-as
