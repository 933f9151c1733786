-- The fault limit. (document 01, "Fault limit"; document 02, E4)
-- A module is its number less one here, as in a vector: module j + 1 is bit j.
use Rattle.std.specs.Prelude.{ℕ, ◌+◌, ◌-◌, ◌*◌, Bool, not, ◌&&◌, ◌||◌, eqb, leb, ltb}
use Rattle.std.specs.Bool.{beq}
use Rattle.words.specs.Bits.{bit}
use Rattle.words.specs.Count.{count, any, lowest}

-- A round as it is heard: by receiver and sender, whether the sender is heard, and its word.
pub record Round : Type 0 where
  pub hears : ℕ → ℕ → Bool
  pub word : ℕ → ℕ → ℕ

-- two receivers differ in hearing a sender, or both hear it with different words
unfoldable pub differ : Round → ℕ → ℕ → ℕ → Bool
differ r i i' j =
    not (beq (r.hears i j) (r.hears i' j))
    || (r.hears i j && r.hears i' j && not (eqb (r.word i j) (r.word i' j)))

-- module i + 1 is not in the cast, the vector of the rule-breakers
abbrev pub follows_in : ℕ → ℕ → Bool
follows_in cast i = not (bit cast i)

-- How the rule-followers hear the senders of a round: which are half heard, and which are heard. The limit asks for no more of a round.
pub record Senders : Type 0 where
  pub half : ℕ → Bool
  pub heard : ℕ → Bool

-- of n modules, those that follow the rules
module _ (n : ℕ) (follows : ℕ → Bool) where
  -- the lowest of them; 0 where there is none
  abbrev pub first_follower : ℕ
  first_follower = lowest n follows - 1

  -- half heard: two rule-followers differ
  unfoldable pub half : Round → ℕ → Bool
  half r j = any n (λ i. follows i && any n (λ i'. follows i' && differ r i i' j))

  -- heard by some rule-follower; a sender is unheard if it is not
  unfoldable pub heard : Round → ℕ → Bool
  heard r j = any n (λ i. follows i && r.hears i j)

  -- both, of every sender of a round
  abbrev pub senders : Round → Senders
  senders r = record { half = half r; heard = heard r }

-- Over two rounds, a counts senders half heard in either,
unfoldable pub half_in : Senders → Senders → ℕ → Bool
half_in h h' j = h.half j || h'.half j

-- by who follows the rules
module _ (follows : ℕ → Bool) where
  -- s other rule-breakers heard in either,
  unfoldable pub breaker_in : Senders → Senders → ℕ → Bool
  breaker_in h h' j = not (half_in h h' j) && (not (follows j) && (h.heard j || h'.heard j))

  -- b the remaining senders unheard in either.
  unfoldable pub unheard_in : Senders → Senders → ℕ → Bool
  unheard_in h h' j = not (half_in h h' j) && (not (breaker_in h h' j) && (not (h.heard j) || not (h'.heard j)))

-- kept if a + s = 0, or if a ≤ 1 and N > 2a + 2s + b + 1
unfoldable pub within : ℕ → ℕ → ℕ → ℕ → Bool
within n a s b = eqb (a + s) 0 || (leb a 1 && ltb (2 * a + 2 * s + b + 1) n)

-- the limit over how two rounds are heard: N, s and b are taken over the modules in a view, and a over all modules
unfoldable pub kept_over : ℕ → (ℕ → Bool) → (ℕ → Bool) → Senders → Senders → Bool
kept_over n follows in_view h h' =
    within (count n in_view) (count n (half_in h h')) (count n (λ j. in_view j && breaker_in follows h h' j))
    (count n (λ j. in_view j && unheard_in follows h h' j))

-- the limit over a round and the round u + 1 before it
unfoldable pub limit : ℕ → (ℕ → Bool) → (ℕ → Bool) → Round → Round → Bool
limit n follows in_view r r' = kept_over n follows in_view (senders n follows r) (senders n follows r')
