-- A session seen by its rounds and steps alone: what was heard, and what rules 4 to 7 make of it. No state, no bytes.
-- Rounds and steps are numbers from 0, and 0 stands for every one before the first: there all is as it was at opening.
use Prim.Native.Nat.{ℕ, suc, ◌-◌, ◌≤◌, ◌<◌}
use mathlib.Core.Path.{◌≡◌}
use mathlib.Core.Bool.{Bool, true, false, not, ◌&&◌, beq}
use mathlib.Core.Logic.{◌⊎◌}
use lib.Dec.{eqb}
use Rattle.words.specs.Bits.{bit}
use Rattle.words.specs.Count.{any}
use Rattle.vote.specs.Vote.{tally}
use Rattle.agreement.specs.Fault.{Round, half, limit}
use Rattle.agreement.proofs.FaultLaws.{Follower}

pub record Protocol : Type 0 where
  pub n : ℕ
  pub u : ℕ
  pub follows : ℕ → Bool
  -- by round
  pub round : ℕ → Round
  -- by step: whose rows count, for the limit, and at one module
  pub elect : ℕ → ℕ → Bool
  pub counted : ℕ → ℕ → ℕ → Bool
  -- by step, module and bit
  pub syn : ℕ → ℕ → ℕ → Bool
  pub health : ℕ → ℕ → ℕ → Bool

-- the health vectors of a step are one
abbrev pub Agree : Protocol → ℕ → Type 0
Agree P k = (i i' j : ℕ) → Follower P.n P.follows i → Follower P.n P.follows i' → j < P.n → P.health k i j ≡ P.health k i' j

-- the deciding round of step k, and the one that it judges
abbrev pub now : Protocol → ℕ → Round
now P k = P.round (k - P.u)

abbrev pub past : Protocol → ℕ → Round
past P k = P.round (k - P.u - P.u - 1)

-- in step k of i: the row of l is present and counts; bit h of that row; the row differs from the health vector
abbrev pub present : Protocol → ℕ → ℕ → ℕ → Bool
present P k i l = P.counted k i l && (now P k).hears i l

abbrev pub says : Protocol → ℕ → ℕ → ℕ → ℕ → Bool
says P k i l h = bit ((now P k).word i l) h

abbrev pub row_differs : Protocol → ℕ → ℕ → ℕ → Bool
row_differs P k i j = any P.n (λ h. not (eqb h j) && not (beq (says P k i j h) (P.health k i h)))

-- The limit for the deciding round of step k, which is k - u; it is asked for only where that round is not before the first.
abbrev pub Kept : Protocol → ℕ → Type 0
Kept P k = (k - P.u ≡ 0) ⊎ (limit P.n P.follows (P.elect k) (now P k) (past P k) ≡ true)

-- Rules 4 to 7, and what binds the words, up to round `last`.
pub record Rules (P : Protocol) (last : ℕ) : Type 0 where
  pub voted : (k i j : ℕ) → Follower P.n P.follows i → j < P.n
      → P.health (suc k) i j ≡ tally P.n (λ l. not (eqb l j) && present P (suc k) i l) (λ l. says P (suc k) i l j) (P.syn (suc k - P.u - 1) i j)
  pub marked : (k i j : ℕ) → Follower P.n P.follows i → j < P.n
      → P.syn (suc k) i j ≡ ((now P (suc k)).hears i j && not (present P (suc k) i j && row_differs P (suc k) i j))
  pub sent : (k i l h : ℕ) → k ≤ last → Follower P.n P.follows i → Follower P.n P.follows l → h < P.n → (P.round k).hears i l ≡ true
      → bit ((P.round k).word i l) h ≡ P.syn (k - 1) l h
  pub counting : (k i l : ℕ) → k ≤ last → ((m : ℕ) → m < k → Agree P m) → Follower P.n P.follows i → l < P.n → P.counted k i l ≡ P.elect k l
  pub start-hears : (i j : ℕ) → (P.round 0).hears i j ≡ true
  pub start-not-half : (j : ℕ) → half P.n P.follows (P.round 0) j ≡ false
  pub start-says : (i l h : ℕ) → h < P.n → bit ((P.round 0).word i l) h ≡ true
  pub start-syn : (i j : ℕ) → Follower P.n P.follows i → j < P.n → P.syn 0 i j ≡ true
  pub start-health : (i j : ℕ) → Follower P.n P.follows i → j < P.n → P.health 0 i j ≡ true
