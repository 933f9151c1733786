-- Rule 8 on the lent arrays of a state's accounts: what it leaves in them are the accounts of the definition.
use mathlib.Core.Path.{◌≡◌, ap, ap₂, ◌∙◌, sym}
use mathlib.Core.Bool.{true}
use mathlib.Core.List.{List}
use Prim.Native.Nat.{ℕ, ◌<◌, ◌≤◌}
use lib.ListN.{get_or}
use lib.Ieee.{Float}
use Rattle.words.proofs.ArrayLaws.{array_at, array-ext}
use Rattle.doubles.specs.Double.{of_words, high_word, low_word}
use Rattle.doubles.specs.Array.{entry}
use Rattle.doubles.proofs.DoubleLaws.{held, read-of-written}
use Rattle.doubles.proofs.DoubleArrayLaws.{doubles-at}
use Rattle.setup.specs.Limits.{fades}
use Rattle.setup.specs.declared.Setup.{Setup}
use Rattle.setup.specs.declared.Limits.{Limits}
use Rattle.setup.specs.declared.Limits.TheVariants.{Counts, Fading}
use Rattle.accounts.specs.Round.{account_at, counters_of}
use Rattle.accounts.specs.Lent.{faded_at}
use Rattle.accounts.specs.Range.{AccountRange}
use Rattle.accounts.specs.declared.Counters.{Counters}
use Rattle.accounts.proofs.RoundLaws.{Kept}
use Rattle.accounts.proofs.CountedLaws.{range-in, counted-counters}
use Rattle.accounts.proofs.FadedLaws.{score-range, faded-counters}
use Rattle.image.specs.Part.{first_of, second_of}
use Rattle.calls.specs.Held.{LentRange, kept_at, kept_view, kept_first, kept_second, kept_returns}

-- what is lent is in range where the accounts are
pub lent-range : (l : Limits) (q : ℕ) (k : List ℕ) (n : ℕ) (c : Counters) (j : ℕ) → AccountRange l q (get_or k j 0) (account_at c j)
    → LentRange l q k (first_of (fades l) n c) (second_of (fades l) n c) c.returns j
lent-range (Counts p r) q k n c j f = range-in p q (get_or k j 0) c j f
lent-range (Fading factor limit) q k n c j f = score-range limit q _ _ c j f

-- what a round leaves
pub record KeptNext (l : Limits) (s : Setup) (health : ℕ) (c : Counters) : Type 0 where
  pub view : kept_view l s.n s.q health s.criticality (first_of (fades l) s.n c) (second_of (fades l) s.n c) c.returns ≡ (counters_of s health c).view
  pub first : kept_first l s.n s.q health s.criticality (first_of (fades l) s.n c) (second_of (fades l) s.n c) c.returns
      ≡ first_of (fades l) s.n (counters_of s health c)
  pub second : kept_second l s.n s.q health s.criticality (first_of (fades l) s.n c) (second_of (fades l) s.n c) c.returns
      ≡ second_of (fades l) s.n (counters_of s health c)
  pub returns : kept_returns l s.n s.q health s.criticality (first_of (fades l) s.n c) (second_of (fades l) s.n c) c.returns ≡ (counters_of s health c).returns

module _ (s : Setup) (health : ℕ) (c : Counters) (few : s.n ≤ 16) where
  -- the scores are those of the lent halves
  halves : (factor limit : Float) → ((j : ℕ) → j < s.n → Kept (Fading factor limit) (get_or s.criticality j 0) (account_at c j)) → (j : ℕ) → j < s.n
      → (account_at c j).score ≡ of_words (get_or (first_of true s.n c) j 0) (get_or (second_of true s.n c) j 0)
  unfolding of_words account_at
  halves factor limit k j h =
      sym (ap₂ of_words (array_at s.n (λ i. high_word (entry c.score i)) j h few) (array_at s.n (λ i. low_word (entry c.score i)) j h few)
      ∙ read-of-written (entry c.score j) (held _ (k j h).exact))

  pub kept_next : (l : Limits) → s.limits ≡ l → ((j : ℕ) → j < s.n → Kept l (get_or s.criticality j 0) (account_at c j)) → KeptNext l s health c
  unfolding kept_at
  kept_next (Counts p r) e k =
      let made = counted-counters s p r e health c few (λ j h. (k j h).0.view) in
      record {
        view = ap (λ (d : Counters). d.view) made;
        first = ap (λ (d : Counters). d.penalty) made;
        second = ap (λ (d : Counters). d.reward) made;
        returns = ap (λ (d : Counters). d.returns) made;
      }
  kept_next (Fading factor limit) e k =
      let x = first_of (fades (Fading factor limit)) s.n c in
      let y = second_of (fades (Fading factor limit)) s.n c in
      let made = faded-counters s factor limit e health c x y few (halves factor limit k) (λ j h. (k j h).view) in
      let after : (j : ℕ) → j < s.n → (faded_at factor limit s.q health x y c.returns j).score ≡ entry (counters_of s health c).score j =
      λ j h. sym (doubles-at s.n (λ i. (faded_at factor limit s.q health x y c.returns i).score) j h few) ∙ ap (λ (d : Counters). entry d.score j) made
      in
      record {
        view = ap (λ (d : Counters). d.view) made;
        first = array-ext s.n _ _ (λ j h. ap high_word (after j h));
        second = array-ext s.n _ _ (λ j h. ap low_word (after j h));
        returns = ap (λ (d : Counters). d.returns) made;
      }
