-- Rules 4 to 6: the health vector and the syndrome, bit by bit.
use mathlib.Core.Path.{◌≡◌, refl, sym, ap, ◌∙◌}
use mathlib.Core.Bool.{Bool, not, cond, ◌&&◌}
use mathlib.Core.List.{List}
use Prim.Native.Nat.{ℕ, ◌^◌, ◌≤◌, ◌<◌}
use lib.ListN.{get_or}
use lib.Dec.{eqb, ltb}
use Rattle.words.specs.Bits.{bit, pack}
use Rattle.words.specs.Array.{array}
use Rattle.words.specs.Count.{any}
use Rattle.words.proofs.BitLaws.{bit-pack, pack-ext, pack-lt}
use Rattle.words.proofs.ArrayLaws.{array_at}
use Rattle.vote.specs.Vote.{vote_of, health_of}
use Rattle.rules.specs.Accusation.{differs_at, accusations_of}
use Rattle.rules.specs.Syndrome.{syndrome_of, voters_of, judgement_of}
use Rattle.rules.specs.Alignment.{aligned_of}
use Rattle.rules.specs.declared.Reading.{Reading}
use Rattle.rules.specs.declared.Judgement.{Judgement}
use Rattle.rules.proofs.AccusationLaws.{unaccused}
use Rattle.rules.proofs.AlignmentLaws.{aligned-by}

-- who votes
pub voter-bit : (n view : ℕ) (aligned : Reading) (j : ℕ) → j < n → bit (voters_of n view aligned) j ≡ bit view j && bit aligned.heard j
unfolding voters_of
voter-bit n view aligned j h = bit-pack n _ j h

module _ (n view : ℕ) (aligned : Reading) (own : ℕ) where
  pub health-lt : (judgement_of n view aligned own).health < 2 ^ n
  unfolding judgement_of health_of
  health-lt = pack-lt n _

  pub syndrome-lt : (judgement_of n view aligned own).syndrome < 2 ^ n
  unfolding judgement_of syndrome_of
  syndrome-lt = pack-lt n _

  module _ (j : ℕ) (h : j < n) where
    pub health-bit : bit (judgement_of n view aligned own).health j ≡ vote_of n (voters_of n view aligned) aligned.rows own j
    unfolding judgement_of health_of
    health-bit = bit-pack n _ j h

    pub syndrome-bit : n ≤ 16 → bit (judgement_of n view aligned own).syndrome j
        ≡ bit aligned.heard j
        && not (bit (voters_of n view aligned) j && any n (differs_at (get_or aligned.rows j 0) (judgement_of n view aligned own).health j))
    unfolding judgement_of syndrome_of accusations_of
    syndrome-bit small =
        bit-pack n _ j h
        ∙ ap (λ (a : ℕ). bit aligned.heard j && eqb a 0) (array_at n _ j h small)
        ∙ ap (λ (b : Bool). bit aligned.heard j && b) (unaccused n (voters_of n view aligned) (get_or aligned.rows j 0) (judgement_of n view aligned own).health j)

-- the syndrome without the accusations: who is heard, and has a row that differs nowhere
pub syndrome-by : (n voters heard : ℕ) (rows : List ℕ) (health : ℕ) → n ≤ 16
    → pack n (λ j. bit heard j && not (bit voters j && any n (differs_at (get_or rows j 0) health j)))
    ≡ syndrome_of n heard (accusations_of n voters rows health)
unfolding syndrome_of accusations_of
syndrome-by n voters heard rows health small =
    pack-ext n _ _ (λ j h. ap (λ (b : Bool). bit heard j && b)
    (sym (unaccused n voters (get_or rows j 0) health j)
    ∙ ap (λ (a : ℕ). eqb a 0) (sym (array_at n _ j h small))))

-- rules 4, 5 and 6 one after the other
pub judgement-by : {voters health syndrome : ℕ} {accusations : List ℕ} (n view : ℕ) (aligned : Reading) (own : ℕ)
    → voters ≡ pack n (λ j. bit view j && bit aligned.heard j) → health ≡ health_of n voters aligned.rows own → accusations ≡ accusations_of n voters aligned.rows health
    → syndrome ≡ syndrome_of n aligned.heard (accusations_of n voters aligned.rows health)
    → record { health = health; accusations = accusations; syndrome = syndrome } ≡ judgement_of n view aligned own
unfolding judgement_of voters_of
judgement-by n view aligned own v e a s = rw (s, a, e, v)

-- the same where the aligned rows are lent, and no accusation is asked for
pub judged-by : {heard split known voters health syndrome : ℕ} {rows : List ℕ} (n view : ℕ) (skew : Bool) (place : ℕ) (previous this : Reading) (own : ℕ)
    → heard ≡ this.heard → split ≡ cond skew place 0 → known ≡ pack n (λ j. cond (ltb j split) (bit previous.heard j) (bit heard j))
    → rows ≡ array n (λ j. cond (ltb j split) (get_or previous.rows j 0) (get_or this.rows j 0))
    → voters ≡ pack n (λ j. bit view j && bit known j) → health ≡ health_of n voters rows own
    → syndrome ≡ syndrome_of n known (accusations_of n voters rows health)
    → (health ≡ (judgement_of n view (aligned_of n skew place previous this) own).health)
    × (syndrome ≡ (judgement_of n view (aligned_of n skew place previous this) own).syndrome)
judged-by {split = split} {known = known} {health = health} {rows = rows} n view skew place previous this own h s k r v e y =
    let a = aligned-by n skew place previous this s (k ∙ ap (λ (x : ℕ). pack n (λ j. cond (ltb j split) (bit previous.heard j) (bit x j))) h) r in
    let j = judgement-by n view (record { heard = known; rows = rows }) own v e refl y in (
      ap (λ (x : Judgement). x.health) j ∙ ap (λ (x : Reading). (judgement_of n view x own).health) a,
      ap (λ (x : Judgement). x.syndrome) j ∙ ap (λ (x : Reading). (judgement_of n view x own).syndrome) a,
    )
