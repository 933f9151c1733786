-- What it means for a module to be outside the view that a step goes by, in other words than rules 4 to 6 have it. (document 02, E4)
-- Proved in proofs/StruckOff.antt.
use Rattle.std.specs.Prelude.{ℕ, ◌≤◌, ◌<◌, ◌≡◌, ◌≢◌, true, false, get_or}
use Rattle.words.specs.Bits.{bit}
use Rattle.vote.specs.Vote.{vote_of}
use Rattle.rules.specs.Accusation.{accusation_of}
use Rattle.rules.specs.Syndrome.{judgement_of}
use Rattle.rules.specs.declared.Reading.{Reading}

-- two aligned reads have the same of every module of n but j + 1
pub record SameBut (n j : ℕ) (r r' : Reading) : Type 0 where
  pub heard : (l : ℕ) → l < n → l ≢ j → bit r.heard l ≡ bit r'.heard l
  pub row : (l : ℕ) → l < n → l ≢ j → get_or r.rows l 0 ≡ get_or r'.rows l 0

-- of every read, and every module j + 1 of n that is outside the view
pub record StruckOff : Type 0 where
  -- its row does not vote: the health vector is the same whatever its row is, and whether it is heard
  pub no-vote : (n view own j : ℕ) (r r' : Reading) → bit view j ≡ false → SameBut n j r r'
      → (judgement_of n view r own).health ≡ (judgement_of n view r' own).health
  -- it is not accused
  pub not-accused : (n view own j : ℕ) (r : Reading) → n ≤ 16 → j < n → bit view j ≡ false → get_or (judgement_of n view r own).accusations j 0 ≡ 0
  -- its bit of the syndrome is set exactly if it is heard
  pub heard-enough : (n view own j : ℕ) (r : Reading) → n ≤ 16 → j < n → bit view j ≡ false
      → bit (judgement_of n view r own).syndrome j ≡ bit r.heard j

-- of every read, where all modules are in the view: document 01's rules 4 and 5, in which all rows that are present vote and can be accused
pub record AllInView : Type 0 where
  pub votes : (n view own j : ℕ) (r : Reading) → ((l : ℕ) → l < n → bit view l ≡ true) → j < n
      → bit (judgement_of n view r own).health j ≡ vote_of n r.heard r.rows own j
  pub accused : (n view own j : ℕ) (r : Reading) → n ≤ 16 → ((l : ℕ) → l < n → bit view l ≡ true) → j < n
      → get_or (judgement_of n view r own).accusations j 0
      ≡ accusation_of n r.heard (get_or r.rows j 0) (judgement_of n view r own).health j
