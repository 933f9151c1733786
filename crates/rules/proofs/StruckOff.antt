-- Outside the view a module neither votes nor is accused, and its syndrome bit says whether it is heard; with all in the view the rules are document 01's.
use mathlib.Core.Path.{◌≡◌, refl, sym, ap, ap₂, ◌∙◌}
use mathlib.Core.Bool.{Bool, true, false, cond, not, ◌&&◌}
use mathlib.Core.Logic.{⊎_elim, inr}
use Prim.Native.Nat.{ℕ, ◌≤◌, ◌<◌}
use lib.ListN.{get_or}
use lib.Dec.{eqb}
use borrow.Author.Tests.{eqb-true, eqb-false}
use Rattle.words.specs.Bits.{bit}
use Rattle.words.specs.Count.{lowest}
use Rattle.words.proofs.Truth.{which, and-false-l}
use Rattle.words.proofs.BitLaws.{pack-ext}
use Rattle.words.proofs.ArrayLaws.{array_at}
use Rattle.vote.specs.Vote.{vote_of, health_of}
use Rattle.rules.specs.Accusation.{differs_at, accusation_of, accusations_of}
use Rattle.rules.specs.Syndrome.{voters_of, judgement_of}
use Rattle.rules.specs.StruckOff.{SameBut, StruckOff, AllInView}
use Rattle.rules.specs.declared.Reading.{Reading}
use Rattle.vote.proofs.VoteLaws.{tally-ext}
use Rattle.rules.proofs.AccusationLaws.{missing-unaccused}
use Rattle.rules.proofs.SyndromeLaws.{voter-bit, health-bit, syndrome-bit}

-- one outside the view is no voter
no-voter : (n view : ℕ) (r : Reading) (j : ℕ) → j < n → bit view j ≡ false → bit (voters_of n view r) j ≡ false
no-voter n view r j h f = voter-bit n view r j h ∙ and-false-l (bit view j) _ f

module _ (n view own j : ℕ) (r r' : Reading) (out : bit view j ≡ false) (same : SameBut n j r r') where
  -- the same modules vote, with the same rows
  voter : (l : ℕ) → l < n → bit (voters_of n view r) l ≡ bit (voters_of n view r') l
  voter l h =
      ⊎_elim
      (λ (t : eqb l j ≡ true).
      let f : bit view l ≡ false = ap (bit view) (eqb-true l j t) ∙ out in
      no-voter n view r l h f ∙ sym (no-voter n view r' l h f))
      (λ (f : eqb l j ≡ false).
      voter-bit n view r l h ∙ ap (λ (b : Bool). bit view l && b) (same.heard l h (eqb-false l j f)) ∙ sym (voter-bit n view r' l h))
      (which (eqb l j))

  row-said : (l i : ℕ) → l < n
      → bit (voters_of n view r) l && bit (get_or r.rows l 0) i ≡ bit (voters_of n view r') l && bit (get_or r'.rows l 0) i
  row-said l i h =
      ⊎_elim
      (λ (t : eqb l j ≡ true).
      let f : bit view l ≡ false = ap (bit view) (eqb-true l j t) ∙ out in
      and-false-l (bit (voters_of n view r) l) _ (no-voter n view r l h f)
      ∙ sym (and-false-l (bit (voters_of n view r') l) _ (no-voter n view r' l h f)))
      (λ (f : eqb l j ≡ false). ap₂ (λ (v : Bool) (w : ℕ). v && bit w i) (voter l h) (same.row l h (eqb-false l j f)))
      (which (eqb l j))

  vote-same : (i : ℕ) → i < n → vote_of n (voters_of n view r) r.rows own i ≡ vote_of n (voters_of n view r') r'.rows own i
  unfolding vote_of
  vote-same i hi =
      tally-ext n _ _ _ _ _ _ (λ l h. ap (λ (b : Bool). not (eqb l i) && b) (voter l h))
      (λ l h. join (not (eqb l i)) _ _ _ _ (row-said l i h)) (inr refl)
    where
      join : (a b c b' c' : Bool) → b && c ≡ b' && c' → a && b && c ≡ a && b' && c'
      join true b c b' c' e = e
      join false b c b' c' e = refl

  no-vote : (judgement_of n view r own).health ≡ (judgement_of n view r' own).health
  unfolding judgement_of health_of
  no-vote = pack-ext n _ _ vote-same

module _ (n view own j : ℕ) (r : Reading) (small : n ≤ 16) (h : j < n) where
  -- the accusation of one module
  accusation-at : get_or (judgement_of n view r own).accusations j 0
      ≡ accusation_of n (voters_of n view r) (get_or r.rows j 0) (judgement_of n view r own).health j
  unfolding judgement_of accusations_of
  accusation-at = array_at n _ j h small

  not-accused : bit view j ≡ false → get_or (judgement_of n view r own).accusations j 0 ≡ 0
  not-accused f = accusation-at ∙ missing-unaccused n (voters_of n view r) _ _ j (no-voter n view r j h f)

  heard-enough : bit view j ≡ false → bit (judgement_of n view r own).syndrome j ≡ bit r.heard j
  heard-enough f =
      syndrome-bit n view r own j h small
      ∙ free (bit r.heard j) (bit (voters_of n view r) j) _ (no-voter n view r j h f)
    where
      free : (a v d : Bool) → v ≡ false → a && not (v && d) ≡ a
      free true v d e = ap (λ (b : Bool). not (b && d)) e
      free false v d e = refl

-- with all in the view those heard are the voters
all-voters : (n view : ℕ) (r : Reading) → ((l : ℕ) → l < n → bit view l ≡ true) → (l : ℕ) → l < n → bit (voters_of n view r) l ≡ bit r.heard l
all-voters n view r all l h = voter-bit n view r l h ∙ ap (λ (b : Bool). b && bit r.heard l) (all l h)

votes-all : (n view own j : ℕ) (r : Reading) → ((l : ℕ) → l < n → bit view l ≡ true) → j < n
    → bit (judgement_of n view r own).health j ≡ vote_of n r.heard r.rows own j
unfolding vote_of
votes-all n view own j r all h =
    health-bit n view r own j h
    ∙ tally-ext n _ _ _ _ _ _ (λ l hl. ap (λ (b : Bool). not (eqb l j) && b) (all-voters n view r all l hl))
    (λ l hl. ap (λ (b : Bool). not (eqb l j) && b && bit (get_or r.rows l 0) j) (all-voters n view r all l hl)) (inr refl)

accused-all : (n view own j : ℕ) (r : Reading) → n ≤ 16 → ((l : ℕ) → l < n → bit view l ≡ true) → j < n
    → get_or (judgement_of n view r own).accusations j 0 ≡ accusation_of n r.heard (get_or r.rows j 0) (judgement_of n view r own).health j
unfolding accusation_of
accused-all n view own j r small all h =
    accusation-at n view own j r small h
    ∙ ap (λ (b : Bool). cond b (lowest n (differs_at (get_or r.rows j 0) (judgement_of n view r own).health j)) 0) (all-voters n view r all j h)

pub struck-off : StruckOff
struck-off = record { no-vote = no-vote; not-accused = not-accused; heard-enough = heard-enough }

pub all-in-view : AllInView
all-in-view = record { votes = votes-all; accused = accused-all }
