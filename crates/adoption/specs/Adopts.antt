-- When a module of a session adopts a view: "For each module a value carried by more than half of all N is adopted; if any module has none, the receiver
-- takes itself out and stays out until opened anew." (document 02, E11)
-- A module is its number less one, as in a session. Step k votes on the view words of round k - u, by rule 3 "aligned .. like syndromes"; round 0 stands for
-- every round before 1, in which all hear all, with full views.
use Rattle.std.specs.Prelude.{ℕ, ◌-◌, ◌*◌, ◌^◌, ◌<◌, ◌≡◌, ◌≢◌, Bool, true, false, ◌&&◌}
use Rattle.std.specs.Bool.{beq}
use Rattle.words.specs.Bits.{bit}
use Rattle.words.specs.Count.{count}
use Rattle.agreement.specs.Session.{Session, size, u, RuleFollower, view_word_in, hears_view, state}

module _ (S : Session) where
  -- module i is out after its step k; for k = 0 after its opening
  abbrev pub is_out : ℕ → ℕ → Bool
  is_out i k = (state S i k).views.out

  -- the adopted view of module i after its step k
  abbrev pub adopted_view : ℕ → ℕ → ℕ
  adopted_view i k = (state S i k).views.adopted

  -- how many senders carry this value of module j, in their view words of round ρ that module i hears, its own included
  abbrev pub carriers_heard : ℕ → ℕ → ℕ → Bool → ℕ
  carriers_heard ρ i j value = count (size S) (λ l. hears_view S ρ i l && beq (bit (view_word_in S ρ i l) j) value)

  -- Module i adopts the view v in its step k, from round k - u: it was not out before, and of each module "more than half of all N" senders carry the
  -- value that it has in v.
  pub record Adopts (i k v : ℕ) : Type 0 where
    pub in-before : is_out i (k - 1) ≡ false
    pub view : v < 2 ^ size S
    pub carried : (j : ℕ) → j < size S → size S < 2 * carriers_heard (k - u S) i j (bit v j)

  -- in round ρ "no sender gives two rule-followers different view words": where both hear one of its, it is the same
  abbrev pub OneFaced : ℕ → Type 0
  OneFaced ρ =
      (i i' j : ℕ) → RuleFollower S i → RuleFollower S i' → j < size S → hears_view S ρ i j ≡ true → hears_view S ρ i' j ≡ true
      → view_word_in S ρ i j ≡ view_word_in S ρ i' j

  -- in round ρ two modules "hear no common sender's view word"
  abbrev pub NoneInCommon : ℕ → ℕ → ℕ → Type 0
  NoneInCommon ρ i i' = (j : ℕ) → j < size S → hears_view S ρ i j && hears_view S ρ i' j ≡ false

  -- In round ρ the cable is torn into parts, and `part` says on which each module is: rule-followers on different parts hear no common sender's view word.
  abbrev pub TornInto : (ℕ → ℕ) → ℕ → Type 0
  TornInto part ρ = (i i' : ℕ) → RuleFollower S i → RuleFollower S i' → part i ≢ part i' → NoneInCommon ρ i i'
